use Rattle.std.proofs.Common.{◌≡◌, ◌∙◌, sym, ap, subst, refl, ℕ, Option, Some}
use Rattle.std.specs.Option.{option_copied}
use Rattle.spdx_gate.specs.declared.package.Verdict.{Verdict}
use Rattle.spdx_gate.specs.Reports.{text_by, text_of, tables_of, IsVerdictOfText}
use Rattle.spdx_gate.proofs.Rows.{right_after, verdict_at, judged_row}
use Rattle.spdx_gate.proofs.report.row_of.Goals as goal

pub returns-clause-row : goal.returns-clause-row
returns-clause-row c =
    let rows = c.args.catalogue.now in
    let p = c.args.policy.now in
    let x = c.args.asked.now in
    let js = c.place_of.new.judgements.items in
    let tables = c.as_slice.result.now in
    let text = c.in-Some.text.now in
    let right = right_after rows p tables text c.args.judgements.now.items js c.in_ok-place.ensures.adds c.requires.right in
    let is_text : text_of p x ≡ Some text = sym (c.in-Some.ensures ∙ ap (λ (z : Option ℕ). text_by p z (option_copied x.license)) c.in_ok-clarification.ensures) in
    let there : tables ≡ tables_of p x = c.as_slice.ensures.value ∙ c.in_ok-exceptions.ensures in
    let told = verdict_at rows p js tables text c.in_ok-place.place c.index.result.now right c.in_ok-place.ensures.place c.index.ensures in
    let same : IsVerdictOfText rows p tables (Some text) c.verdict-verdict.result = subst (λ (v : Verdict). IsVerdictOfText rows p tables (Some text) v) (sym c.verdict-verdict.ensures) told in
    judged_row rows p js x _ tables text c.in_ok-place.place is_text there same (sym c.as_slice.ensures.value) c.in_ok-clarification.ensures refl c.in_ok-place.ensures.place
