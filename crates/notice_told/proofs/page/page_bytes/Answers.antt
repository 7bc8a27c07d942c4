use Rattle.std.proofs.Common.{◌≡◌, ℕ, List, Any, map, sym, ap, ◌∙◌, subst}
use Rattle.std.specs.Str.{IsUtf8}
use Rattle.notice_forms.specs.Told.{Named, named}
use Rattle.notice_told.specs.Page.{texts_in}
use Rattle.notice_told.proofs.Faults.{of_fault}
use Rattle.notice_told.proofs.page.page_bytes.Goals as goal

abbrev Has : List ℕ → List Named → Type 0
Has name texts = Any (λ (t : Named). (t.name ≡ name) × (¬ (IsUtf8 t.bytes))) texts

pub returns-clause-err : goal.returns-clause-err
returns-clause-err c =
    let name = c.in-Err-NotUtf8.name in
    let seen : map named c.deref.result.now ≡ texts_in c.args.texts.now = ap (λ ts. map named ts) c.deref.ensures.value ∙ c.in_ok-views.ensures in
    let found = of_fault c.args.format _ c.in-Err-NotUtf8.field-0 name c.in-Err-NotUtf8.field-0-is c.in-Err-NotUtf8.ensures.refused in
    (found.0, subst (λ (n : List ℕ). Has n (texts_in c.args.texts.now)) (sym c.in_ok-from_str-in-Err-NotUtf8.ensures.ok) (subst (Has name.now) seen found.1))
