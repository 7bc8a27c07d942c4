use Rattle.check_files.specs.Told.{Tells}
use Rattle.package_commands.specs.Unchosen.{AreNoChoicesTold}
use Rattle.package_commands.proofs.unchosen.tell_each.Given as goal

abbrev pub invariant-loop-one : goal.invariant-loop-one
invariant-loop-one g l = Tells (g.T.Listener.heard l.initial.listener) (g.T.Listener.heard l.listener) (AreNoChoicesTold l.yielded)
