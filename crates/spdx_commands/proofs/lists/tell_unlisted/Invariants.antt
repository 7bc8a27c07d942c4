use Rattle.std.proofs.Common.{map}
use Rattle.check_files.specs.Told.{Hears}
use Rattle.spdx_commands.specs.Lists.{unlisted_trouble}
use Rattle.spdx_commands.proofs.lists.tell_unlisted.Given as goal

abbrev pub invariant-loop-one : goal.invariant-loop-one
invariant-loop-one g l = Hears (g.T.Listener.heard l.initial.listener) (g.T.Listener.heard l.listener) (map unlisted_trouble l.yielded)
