use Rattle.std.proofs.Common.{map}
use Rattle.check_files.specs.Told.{Hears}
use Rattle.check_program.specs.Ends.{left_trouble}
use Rattle.check_program.proofs.ends.tell_left.Given as goal

abbrev pub invariant-loop-path : goal.invariant-loop-path
invariant-loop-path g l = Hears (g.T.Telling.told l.initial.teller) (g.T.Telling.told l.teller) (map left_trouble l.yielded)
