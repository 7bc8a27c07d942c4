use Rattle.std.proofs.Common.{◌≡◌, ℕ, List, ◌++◌, ◌∙◌, ap, map, flat_map}
use Rattle.license_notice.specs.Notices.{bands_of, line_of, names_of}
use Rattle.license_notice.specs.Rows.{Band}
use Rattle.notice_forms.specs.Found.{found_at, links_at}
use Rattle.notice_forms.specs.Markup.{html_link, html_link_of, html_package}
use Rattle.notice_forms.specs.Numbered.{numbered}
use Rattle.notice_forms.proofs.Picking.{picked}
use Rattle.notice_forms.proofs.Pieces.{begun, written, ended}
use Rattle.notice_forms.proofs.by_package.put_package.Goals as goal

pub returns : goal.returns
unfolding html_package
returns c =
    let bands = bands_of c.args.groups.now in
    let l = line_of c.args.release.now in
    let at = c.of.ensures (map (λ (b : Band). b.lines) bands) c.requires in
    let links : links_at (names_of bands) c.of.result.now ≡ numbered (html_link_of l) 0 bands =
    ap (λ (ns : List ℕ). flat_map (found_at html_link (names_of bands)) ns) at ∙ picked (λ (b : Band). b.lines) (λ (b : Band). b.requirement) html_link bands l in
    let w1 = written (begun c.args.page.now.items) _ _ c.in_ok-extend_from_slice.ensures.items in
    let w2 = written w1 _ _ c.in_ok-put_text.ensures.ok in
    let w3 = written w2 _ _ c.in_ok-put_version.ensures in
    let w4 = written w3 _ _ (c.in_ok-put_links.ensures ∙ ap (λ (bs : List ℕ). c.put_version.new.page.items ++ bs) links) in
    ended w4 _ _ c.in_ok-extend_from_slice-2.ensures.items
