use Rattle.std.proofs.Common.{map}
use Rattle.check_files.specs.Told.{Tells}
use Rattle.owed_texts.specs.Held.{name_in}
use Rattle.package_commands.specs.Forms.{AreWordsTold}
use Rattle.package_commands.proofs.forms.tell_words.Given as goal

abbrev pub invariant-loop-word : goal.invariant-loop-word
invariant-loop-word g l =
    Tells (g.T.Listener.heard l.initial.listener) (g.T.Listener.heard l.listener) (AreWordsTold l.files (map name_in l.yielded))
