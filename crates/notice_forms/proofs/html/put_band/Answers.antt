use Rattle.std.proofs.Common.{List, ◌++◌, ◌∙◌, ap, map, flat_map}
use Rattle.license_notice.specs.declared.packages.Release.{Release}
use Rattle.license_notice.specs.Notices.{line_of}
use Rattle.notice_forms.proofs.Pieces.{begun, written, ended}
use Rattle.notice_forms.specs.Markup.{html_line, html_band}
use Rattle.notice_forms.proofs.html.put_band.Goals as goal

pub returns : goal.returns
unfolding html_band
returns c =
    let w1 = written (begun c.args.page.now.items) _ _ c.in_ok-extend_from_slice.ensures.items in
    let w2 = written w1 _ _ c.in_ok-put_number.ensures in
    let w3 = written w2 _ _ c.in_ok-extend_from_slice-2.ensures.items in
    let w4 = written w3 _ _ c.in_ok-put_text.ensures.ok in
    let w5 = written w4 _ _ c.in_ok-extend_from_slice-3.ensures.items in
    let w6 = written w5 _ _ (c.in_ok-put_lines.ensures ∙ ap (λ (rs : List Release). c.extend_from_slice-3.new.self.items ++ flat_map html_line (map line_of rs)) c.deref.ensures.value) in
    ended w6 _ _ c.in_ok-extend_from_slice-4.ensures.items
