use Rattle.std.proofs.Common.{map}
use Rattle.check_files.specs.Told.{Hears}
use Rattle.spdx_troubles.specs.declared.trouble.Trouble.TheVariants as trouble
use Rattle.spdx_commands.proofs.beside.tell_left.Given as goal

abbrev pub invariant-loop-path : goal.invariant-loop-path
invariant-loop-path g l = Hears (g.T.Listener.heard l.initial.listener) (g.T.Listener.heard l.listener) (map trouble.LeftBehind l.yielded)
