use Rattle.std.proofs.Common.{map}
use Rattle.package_commands.specs.Forms.{listed_in}
use Rattle.package_commands.proofs.Steps.{guessed_more}
use Rattle.package_commands.proofs.forms.guessed_as.Goals as goal

pub loop-file-preserved : goal.loop-file-preserved
loop-file-preserved c =
    guessed_more c.args.files.now c.args.word.now c.loop-file.file-index _ c.file-item.result (map listed_in c.loop-file.guessed.items) (map listed_in c.put_guessed.new.guessed.items)
    c.loop-file.invariant c.loop-file-test.true c.file-item.is c.in_ok-put_guessed.ensures
