use Rattle.std.proofs.Common.{◌≡◌, ℕ, ◌++◌, ◌∙◌, ap, length, map, arith}
use Rattle.std.proofs.lemmas.List.{length-map}
use Rattle.license_notice.specs.Notices.{line_of}
use Rattle.notice_forms.specs.Told.{package_count}
use Rattle.notice_forms.proofs.Pieces.{begun, written, ended}
use Rattle.notice_forms.specs.Markup.{html_entry}
use Rattle.notice_forms.proofs.html.put_entry.Goals as goal

pub returns : goal.returns
unfolding html_entry
returns c =
    let lines : c.len.result ≡ length (map line_of c.args.group.now.packages.items) = omega (arith, c.len.ensures, c.args.group.now.packages.ok, length-map c.args.group.now.packages.items line_of) in
    let w1 = written (begun c.args.page.now.items) _ _ c.in_ok-extend_from_slice.ensures.items in
    let w2 = written w1 _ _ c.in_ok-put_number.ensures in
    let w3 = written w2 _ _ c.in_ok-extend_from_slice-2.ensures.items in
    let w4 = written w3 _ _ c.in_ok-put_text.ensures.ok in
    let w5 = written w4 _ _ c.in_ok-extend_from_slice-3.ensures.items in
    let w6 = written w5 _ _ (c.in_ok-put_package_count.ensures ∙ ap (λ (n : ℕ). c.extend_from_slice-3.new.self.items ++ package_count n) lines) in
    ended w6 _ _ c.in_ok-extend_from_slice-4.ensures.items
