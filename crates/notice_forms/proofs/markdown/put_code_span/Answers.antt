use Rattle.notice_forms.proofs.Pieces.{begun, written, ended}
use Rattle.notice_forms.specs.Markdown.{code_span}
use Rattle.notice_forms.proofs.markdown.put_code_span.Goals as goal

pub returns : goal.returns
unfolding code_span
returns c =
    let w1 = written (begun c.args.page.now.items) _ _ c.in_ok-put_backquotes.ensures in
    let w2 = written w1 _ _ c.in_ok-extend_from_slice.ensures.items in
    let w3 = written w2 _ _ c.in_ok-put_pad.ensures in
    let w4 = written w3 _ _ c.in_ok-extend_from_slice-2.ensures.items in
    let w5 = written w4 _ _ c.in_ok-put_pad-2.ensures in
    let w6 = written w5 _ _ c.in_ok-put_backquotes-2.ensures in
    ended w6 _ _ c.in_ok-extend_from_slice-3.ensures.items
