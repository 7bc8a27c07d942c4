use Rattle.check_files.specs.Told.{Hears}
use Rattle.spdx_commands.proofs.said.tell_each.Given as goal

abbrev pub invariant-loop-trouble : goal.invariant-loop-trouble
invariant-loop-trouble g l = Hears (g.T.Listener.heard l.initial.listener) (g.T.Listener.heard l.listener) l.yielded
