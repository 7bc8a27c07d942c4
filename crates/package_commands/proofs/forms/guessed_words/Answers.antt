use Rattle.std.proofs.Common.{map}
use Rattle.owed_texts.specs.Held.{name_in}
use Rattle.package_commands.proofs.Steps.{words_more}
use Rattle.package_commands.proofs.forms.guessed_words.Goals as goal

pub loop-file-preserved : goal.loop-file-preserved
loop-file-preserved c =
    words_more c.args.files.now c.loop-file.file-index _ c.file-item.result (map name_in c.loop-file.words.items) (map name_in c.put_form.new.words.items)
    c.loop-file.invariant c.loop-file-test.true c.file-item.is c.in_ok-put_form.ensures
