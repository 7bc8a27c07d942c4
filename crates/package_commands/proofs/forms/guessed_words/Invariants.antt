use Rattle.std.proofs.Common.{◌≡◌, map, take}
use Rattle.owed_texts.specs.Held.{each_first, name_in}
use Rattle.package_commands.specs.Forms.{words_in}
use Rattle.package_commands.proofs.forms.guessed_words.Given as goal

abbrev pub invariant-loop-file : goal.invariant-loop-file
invariant-loop-file l = map name_in l.words.items ≡ each_first (words_in (take l.file-index l.files))
