use Rattle.spdx_commands.specs.Said.{AreSaid}
use Rattle.check_files.specs.Told.{Does}
use Rattle.spdx_commands.proofs.said.say_each.Given as goal

abbrev pub invariant-loop-said : goal.invariant-loop-said
invariant-loop-said g l =
    Does (g.O.Sink.told l.initial.output) (g.O.Sink.told l.output) (g.T.Listener.heard l.initial.listener) (g.T.Listener.heard l.listener) (AreSaid l.yielded)
