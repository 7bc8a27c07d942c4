use Rattle.std.proofs.Common.{◌≡◌, ℕ, List, ◌++◌, OnOk, refl, sym, ap, ◌∙◌, subst, append-nil}
use Rattle.std.proofs.lemmas.Option.{slice_get_past, slice_get_read}
use Rattle.license_notice.specs.Notices.{bands_of}
use Rattle.license_notice.specs.Rows.{Band}
use Rattle.notice_forms.specs.Markup.{html_link}
use Rattle.notice_forms.proofs.Picking.{at_some, at_none, requirement_at, no_requirement_at}
use Rattle.notice_forms.proofs.by_package.put_link_at.Goals as goal

pub returns-in-Some : goal.returns-in-Some
returns-in-Some c =
    let groups = c.args.groups.now in
    let known = c.in-Some.ensures.lookup in
    let at = slice_get_read groups _ c.args.number c.in-Some.group.now refl known.3.0 known.1 in
    let link = at_some (λ (b : Band). b.requirement) html_link (bands_of groups) c.args.number _ (requirement_at groups c.args.number c.in-Some.group.now at) in
    subst (λ (bs : List ℕ). OnOk c.put_link.result (c.put_link.new.page.items ≡ c.args.page.now.items ++ bs)) (sym link) c.put_link.ensures

pub returns-in-None : goal.returns-in-None
returns-in-None c =
    let groups = c.args.groups.now in
    let none = at_none (λ (b : Band). b.requirement) html_link (bands_of groups) c.args.number (no_requirement_at groups c.args.number (slice_get_past groups c.args.number c.in-None.ensures.lookup.3)) in
    sym (ap (λ (bs : List ℕ). c.args.page.now.items ++ bs) none ∙ append-nil c.args.page.now.items)
