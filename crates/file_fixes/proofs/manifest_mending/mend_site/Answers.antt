use Rattle.std.proofs.Common.{rules, ◌≡◌, ℕ, List, Option, Some, is_some, string_bytes, sym, ◌∙◌, ap, subst}
use Rattle.std.specs.Global.{Vec}
use Rattle.spdx_requirement.specs.Rows.{Rows}
use Rattle.manifests.specs.declared.form.Form.{Form}
use Rattle.manifests.specs.Sites.{Mends, Stays}
use Rattle.file_fixes.specs.declared.manifest_mending.Mending.{Mending}
use Rattle.file_fixes.specs.ManifestFixing.{IsMendedBy, stuck, replaced, bytes_after}
use Rattle.file_fixes.proofs.SoFar.{or_false, or_true}
use Rattle.file_fixes.proofs.manifest_mending.mend_site.Goals as goal

pub returns-in_ok-replace-in-Some-clause-ok : goal.returns-in_ok-replace-in-Some-clause-ok
returns-in_ok-replace-in-Some-clause-ok c =
    let rows : Rows = c.args.manifest.now.catalogue.now in
    let form : Form = c.args.manifest.now.form in
    let old : List ℕ = c.args.manifest.now.bytes.now in
    let before : Mending = c.args.mending.now in
    let after : Mending = c.replace.new.mending in
    let text : List ℕ = c.args.site.text.items in
    let fix : List ℕ = string_bytes c.in-Fix.fix in
    let has : IsMendedBy rows form text fix = search rules in
    let mends : Mends form (bytes_after old before.bytes) c.args.site.number fix c.in-Some.bytes.items = search rules in
    let written : after.bytes ≡ Some c.in-Some.bytes = c.in_ok-replace-in-Some.ensures.bytes in (
      replaced fix,
      record {
        has = has;
        step = subst (λ (b : Option (Vec ℕ)). Mends form (bytes_after old before.bytes) c.args.site.number fix (bytes_after old b)) (sym written) mends;
        texts = c.in_ok-replace-in-Some.ensures.texts;
        left = c.in_ok-replace-in-Some.ensures.left ∙ sym (or_false before.is_left);
        some = ap is_some written ∙ sym (or_true (is_some before.bytes));
      },
    )

pub returns-in_ok-keep-in-None-clause-ok : goal.returns-in_ok-keep-in-None-clause-ok
returns-in_ok-keep-in-None-clause-ok c =
    let rows : Rows = c.args.manifest.now.catalogue.now in
    let form : Form = c.args.manifest.now.form in
    let old : List ℕ = c.args.manifest.now.bytes.now in
    let before : Mending = c.args.mending.now in
    let after : Mending = c.keep-in-None.new.mending in
    let text : List ℕ = c.args.site.text.items in
    let fix : List ℕ = string_bytes c.in-Fix.fix in
    let has : IsMendedBy rows form text fix = search rules in
    let stays : Stays form (bytes_after old before.bytes) c.args.site.number fix = search rules in
    let same : after.bytes ≡ before.bytes = c.in_ok-keep-in-None.ensures.bytes in (
      stuck fix,
      record {
        has = has;
        step = (stays, ap (bytes_after old) same);
        texts = c.in_ok-keep-in-None.ensures.texts;
        left = c.in_ok-keep-in-None.ensures.left;
        some = ap is_some same ∙ sym (or_false (is_some before.bytes));
      },
    )
