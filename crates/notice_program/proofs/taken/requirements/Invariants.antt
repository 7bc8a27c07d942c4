use Rattle.std.proofs.Common.{◌≡◌, map, take}
use Rattle.choice_program.specs.Named.{shown}
use Rattle.notice_program.specs.Taken.{named_in}
use Rattle.notice_program.proofs.taken.requirements.Given as goal

abbrev pub invariant-loop-requirement : goal.invariant-loop-requirement
invariant-loop-requirement l = map named_in l.all.items ≡ map shown (take l.requirement-index l.choice)
