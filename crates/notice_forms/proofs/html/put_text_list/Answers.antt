use Rattle.notice_forms.proofs.Pieces.{begun, written, ended}
use Rattle.notice_forms.specs.Html.{html_text_list}
use Rattle.notice_forms.proofs.html.put_text_list.Goals as goal

pub returns : goal.returns
unfolding html_text_list
returns c =
    let w1 = written (begun c.args.page.now.items) _ _ c.in_ok-extend_from_slice.ensures.items in
    let w2 = written w1 _ _ c.in_ok-put_text_entries.ensures in
    ended w2 _ _ c.in_ok-extend_from_slice-2.ensures.items
