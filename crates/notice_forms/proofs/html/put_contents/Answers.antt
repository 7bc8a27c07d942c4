use Rattle.notice_forms.proofs.Pieces.{begun, written, ended}
use Rattle.notice_forms.specs.Html.{html_contents}
use Rattle.notice_forms.proofs.html.put_contents.Goals as goal

pub returns : goal.returns
unfolding html_contents
returns c =
    let w1 = written (begun c.args.page.now.items) _ _ c.in_ok-extend_from_slice.ensures.items in
    let w2 = written w1 _ _ c.in_ok-put_entries.ensures in
    let w3 = written w2 _ _ c.in_ok-extend_from_slice-2.ensures.items in
    let w4 = written w3 _ _ c.in_ok-put_text_contents.ensures in
    ended w4 _ _ c.in_ok-extend_from_slice-3.ensures.items
