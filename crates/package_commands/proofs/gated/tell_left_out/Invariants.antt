use Rattle.std.proofs.Common.{map}
use Rattle.check_files.specs.Told.{Hears}
use Rattle.spdx_troubles.specs.Causes.{file_trouble}
use Rattle.package_commands.proofs.gated.tell_left_out.Given as goal

abbrev pub invariant-loop-fault : goal.invariant-loop-fault
invariant-loop-fault g l = Hears (g.T.Listener.heard l.initial.listener) (g.T.Listener.heard l.listener) (map file_trouble l.yielded)
