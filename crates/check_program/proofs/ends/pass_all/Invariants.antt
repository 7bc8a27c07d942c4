use Rattle.check_files.specs.Tally.{tally_of}
use Rattle.check_program.specs.Steps.{PassesAll}
use Rattle.check_program.proofs.ends.pass_all.Given as goal

abbrev pub invariant-loop-trouble : goal.invariant-loop-trouble
invariant-loop-trouble g l = PassesAll l.yielded (g.T.Telling.told l.initial.teller) (g.T.Telling.told l.teller) (tally_of l.initial.sums) (tally_of l.sums)
