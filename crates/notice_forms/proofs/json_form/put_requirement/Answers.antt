use Rattle.std.proofs.Common.{◌≡◌, List, ◌++◌, OnOk, refl, sym, ap, ◌∙◌, subst, append-nil}
use Rattle.std.proofs.lemmas.Option.{slice_get_past, slice_get_read}
use Rattle.json.specs.Token.{Token}
use Rattle.license_notice.specs.Notices.{bands_of}
use Rattle.license_notice.specs.Rows.{Band}
use Rattle.notice_forms.specs.Found.{text_token}
use Rattle.notice_forms.proofs.Picking.{at_some, at_none, requirement_at, no_requirement_at}
use Rattle.notice_forms.proofs.json_form.put_requirement.Goals as goal

pub returns-in-Some-clause-tokens : goal.returns-in-Some-clause-tokens
returns-in-Some-clause-tokens c =
    let groups = c.args.groups.now in
    let known = c.in-Some.ensures.lookup in
    let at = slice_get_read groups _ c.args.number c.in-Some.group.now refl known.3.0 known.1 in
    let name = at_some (λ (b : Band). b.requirement) text_token (bands_of groups) c.args.number _ (requirement_at groups c.args.number c.in-Some.group.now at) in
    subst (λ (ts : List Token). OnOk c.string.result (c.string.new.self.tokens ≡ c.args.writer.now.tokens ++ ts)) (sym name) c.string.ensures.ok

pub returns-in-None-clause-tokens : goal.returns-in-None-clause-tokens
returns-in-None-clause-tokens c =
    let groups = c.args.groups.now in
    let none = at_none (λ (b : Band). b.requirement) text_token (bands_of groups) c.args.number (no_requirement_at groups c.args.number (slice_get_past groups c.args.number c.in-None.ensures.lookup.3)) in
    sym (ap (λ (ts : List Token). c.args.writer.now.tokens ++ ts) none ∙ append-nil c.args.writer.now.tokens)
