use Rattle.check_files.specs.Told.{Tells}
use Rattle.spdx_commands.specs.Simplify.{AreUnmeant}
use Rattle.spdx_commands.proofs.simplification.tell_unmeant.Given as goal

abbrev pub invariant-loop-line : goal.invariant-loop-line
invariant-loop-line g l =
    Tells (g.T.Listener.heard l.initial.listener) (g.T.Listener.heard l.listener) (AreUnmeant l.path l.yielded)
