use Rattle.choice_program.proofs.Owning.{AreOwnUpTo}
use Rattle.choice_program.proofs.allowed.all_own.Given as goal

abbrev pub invariant-loop-number : goal.invariant-loop-number
invariant-loop-number l = AreOwnUpTo l.report l.packages l.number l.all
