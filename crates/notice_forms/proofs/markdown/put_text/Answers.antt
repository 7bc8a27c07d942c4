use Rattle.notice_forms.proofs.Pieces.{begun, written, ended}
use Rattle.notice_forms.specs.Markdown.{markdown_text}
use Rattle.notice_forms.proofs.markdown.put_text.Goals as goal

pub returns : goal.returns
unfolding markdown_text
returns c =
    let w1 = written (begun c.args.page.now.items) _ _ c.in_ok-extend_from_slice.ensures.items in
    let w2 = written w1 _ _ c.in_ok-put_span.ensures in
    let w3 = written w2 _ _ c.in_ok-extend_from_slice-2.ensures.items in
    let w3b = written w3 _ _ c.in_ok-put_holders.ensures in
    let w4 = written w3b _ _ c.in_ok-put_fence.ensures in
    let w5 = written w4 _ _ c.in_ok-extend_from_slice-3.ensures.items in
    let w6 = written w5 _ _ c.in_ok-extend_from_slice-4.ensures.items in
    let w7 = written w6 _ _ c.in_ok-put_last_newline.ensures in
    let w8 = written w7 _ _ c.in_ok-put_fence-2.ensures in
    ended w8 _ _ c.in_ok-extend_from_slice-5.ensures.items
