use Rattle.notice_forms.proofs.Pieces.{begun, written, ended}
use Rattle.notice_forms.specs.Html.{html_text_part}
use Rattle.notice_forms.proofs.html.put_text_part.Goals as goal

pub returns-clause-ok : goal.returns-clause-ok
unfolding html_text_part
returns-clause-ok c =
    let w1 = written (begun c.args.page.now.items) _ _ c.in_ok-extend_from_slice.ensures.items in
    ended w1 _ _ c.in_ok-put_each_text.ensures.ok
