use Rattle.std.proofs.Common.{◌≡◌, map, take}
use Rattle.package_commands.specs.Forms.{guessed_as, listed_in}
use Rattle.package_commands.proofs.forms.guessed_as.Given as goal

abbrev pub invariant-loop-file : goal.invariant-loop-file
invariant-loop-file l = map listed_in l.guessed.items ≡ guessed_as (take l.file-index l.files) l.word
