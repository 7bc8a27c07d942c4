use Rattle.std.proofs.Common.{rules, ◌≡◌, ℕ, List, Option, String, Global, option_map, string_bytes, subst}
use Rattle.std.proofs.lemmas.Str.{IsUtf8-string_bytes}
use Rattle.std.specs.Str.{IsUtf8}
use Rattle.spdx_requirement.specs.Rows.{Rows}
use Rattle.spdx_canonical.specs.Fix.{Reads, IsFix, IsFixOf}
use Rattle.manifests.specs.declared.form.Form.{Form}
use Rattle.file_fixes.specs.ManifestFixing.{mode_of, IsMendedBy}
use Rattle.file_fixes.proofs.Slashed.{mended_by}
use Rattle.file_fixes.proofs.need.need_of.Goals as goal

pub returns-in-Some : goal.returns-in-Some
returns-in-Some c =
    let rows : Rows = c.args.catalogue.now in
    let form : Form = c.args.form in
    let text : List ℕ = c.in-Ok.text.now in
    let fix : List ℕ = string_bytes c.in-Some.fix in
    let same : text ≡ c.args.bytes.now = search rules in
    let is_fix : IsFix rows text fix = subst (λ (o : Option (String Global)). IsFixOf rows text (option_map string_bytes o)) c.in-Some.is c.in_ok-fix.ensures.answer in
    let refused : Reads rows (mode_of form) text → ⊥ = c.in_ok-is_read.ensures.no c.if-branch.false in
    let utf8 : IsUtf8 fix = IsUtf8-string_bytes c.in-Some.fix in
    subst (λ (t : List ℕ). IsMendedBy rows form t fix) same (mended_by rows form text fix is_fix utf8 refused)
