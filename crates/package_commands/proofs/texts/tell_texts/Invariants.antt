use Rattle.check_files.specs.Told.{Tells}
use Rattle.package_commands.specs.Texts.{AreTextsTold}
use Rattle.package_commands.proofs.texts.tell_texts.Given as goal

abbrev pub invariant-loop-trouble : goal.invariant-loop-trouble
invariant-loop-trouble g l = Tells (g.T.Listener.heard l.initial.listener) (g.T.Listener.heard l.listener) (AreTextsTold l.link l.yielded)
