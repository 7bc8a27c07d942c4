use Rattle.std.proofs.Common.{map}
use Rattle.check_files.specs.Told.{Hears}
use Rattle.package_commands.specs.Notice.{missing_trouble}
use Rattle.package_commands.proofs.pages.tell_missing.Given as goal

abbrev pub invariant-loop-one : goal.invariant-loop-one
invariant-loop-one g l = Hears (g.T.Listener.heard l.initial.listener) (g.T.Listener.heard l.listener) (map missing_trouble l.yielded)
