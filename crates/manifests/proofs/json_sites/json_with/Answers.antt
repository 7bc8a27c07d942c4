use Rattle.std.proofs.Common.{rules, ◌≡◌, ℕ, List, Bor, Some, map, sym, ap, ◌∙◌}
use Rattle.std.specs.Prelude.{slice_get}
use Rattle.serde_json.specs.View.{view}
use Rattle.manifests.specs.Steps.{json_steps}
use Rattle.manifests.specs.Json.{license_texts}
use Rattle.manifests.proofs.JsonWays.{mends_nothing}
use Rattle.manifests.proofs.SoFar.{if_none}
use Rattle.manifests.proofs.json_sites.json_with.Goals as goal

pub returns-clause-none : goal.returns-clause-none
returns-clause-none c =
    let d = view c.in_ok-document.document in
    let old = c.in-Some.old.now in
    let declared : slice_get (license_texts d) c.args.number ≡ Some old = ap (λ (ts : List (List ℕ)). slice_get ts c.args.number) (sym c.in_ok-found.ensures.texts) ∙ ap (λ (xs : List (Bor (List ℕ))). slice_get (map (λ (t : Bor (List ℕ)). t.now) xs) c.args.number) (sym c.as_slice-4.ensures.value) ∙ sym c.in-Some.ensures in
    let are = ap (map json_steps) c.as_slice-2.ensures.value ∙ c.in_ok-found.ensures.paths in
    if_none c.in_ok-changed_at.field-0 _ _
    (λ none mended. mends_nothing c.args.bytes.now d c.as_slice-2.result.now c.args.number old c.args.new.now mended c.in_ok-document.ensures.ok declared are none)
    c.in_ok-changed_at.ensures.none

pub returns-in_err-document-clause-err : goal.returns-in_err-document-clause-err
returns-in_err-document-clause-err c = λ form. let is = c.in_err-document.ensures.err form in search rules
