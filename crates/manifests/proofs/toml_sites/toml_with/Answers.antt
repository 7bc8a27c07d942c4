use Rattle.std.proofs.Common.{rules, ◌≡◌, ℕ, List, Bor, Some, map, sym, subst, ap, ◌∙◌}
use Rattle.std.specs.Prelude.{slice_get}
use Rattle.toml.specs.View.{table_view}
use Rattle.manifests.specs.Steps.{toml_steps}
use Rattle.manifests.specs.Sites.{MendsToml, texts_of_toml}
use Rattle.manifests.proofs.TomlWays.{mends_nothing}
use Rattle.manifests.proofs.SoFar.{if_none}
use Rattle.manifests.proofs.toml_sites.toml_with.Goals as goal

pub returns-clause-none : goal.returns-clause-none
returns-clause-none c =
    let d = table_view c.in_ok-document.document in
    let old = c.in-Some.old.now in
    let declared : slice_get (texts_of_toml c.args.form d) c.args.number ≡ Some old = ap (λ (ts : List (List ℕ)). slice_get ts c.args.number) (sym c.in_ok-found.ensures.texts) ∙ ap (λ (xs : List (Bor (List ℕ))). slice_get (map (λ (t : Bor (List ℕ)). t.now) xs) c.args.number) (sym c.as_slice-4.ensures.value) ∙ sym c.in-Some.ensures in
    let are = ap (map toml_steps) c.as_slice-2.ensures.value ∙ c.in_ok-found.ensures.paths in
    let text = c.in_ok-text.text.now in
    if_none c.in_ok-changed_at.field-0 _ _
    (λ none mended m.
    mends_nothing c.args.form text d c.as_slice-2.result.now c.args.number old c.args.new.now mended c.in_ok-document.ensures.ok declared are none
    (subst (λ (bytes : List ℕ). MendsToml c.args.form bytes c.args.number c.args.new.now mended) (sym c.in_ok-text.ensures.ok) m))
    c.in_ok-changed_at.ensures.none

pub returns-in_err-text-clause-err : goal.returns-in_err-text-clause-err
returns-in_err-text-clause-err c = let is = c.in_err-text.ensures.err c.args.form in search rules

pub returns-in_err-document-clause-err : goal.returns-in_err-document-clause-err
returns-in_err-document-clause-err c =
    let is = rw c.in_ok-text.ensures.ok at c.in_err-document.ensures.err c.args.form in search rules
