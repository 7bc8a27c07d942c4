use Rattle.std.proofs.Common.{ℕ, List, ◌++◌, ◌∙◌, ap}
use Rattle.notice_forms.proofs.Pieces.{begun, written, ended}
use Rattle.notice_forms.specs.Html.{html_front}
use Rattle.notice_forms.proofs.html.put_front.Goals as goal

pub returns : goal.returns
unfolding html_front
returns c =
    let w1 = written (begun c.args.page.now.items) _ _ (c.in_ok-extend_from_slice.ensures.items ∙ ap (λ (b : List ℕ). c.args.page.now.items ++ b) c.as_bytes.ensures.value) in
    let w2 = written w1 _ _ c.in_ok-put_text.ensures.ok in
    let w3 = written w2 _ _ (c.in_ok-extend_from_slice-2.ensures.items ∙ ap (λ (b : List ℕ). c.put_text.new.page.items ++ b) c.as_bytes-2.ensures.value) in
    let w4 = written w3 _ _ c.in_ok-put_text-2.ensures.ok in
    ended w4 _ _ c.in_ok-extend_from_slice-3.ensures.items
