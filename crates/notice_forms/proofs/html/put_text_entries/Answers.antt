use Rattle.notice_forms.specs.Markup.{html_text_entry}
use Rattle.notice_forms.proofs.Numbering.{text_pushed}
use Rattle.notice_forms.proofs.html.put_text_entries.Goals as goal

pub loop-number-preserved : goal.loop-number-preserved
loop-number-preserved c =
    text_pushed html_text_entry c.args.texts.now c.loop-number.number c.loop-number-test.true _ _ _ c.loop-number.invariant c.in_ok-put_text_entry.ensures
