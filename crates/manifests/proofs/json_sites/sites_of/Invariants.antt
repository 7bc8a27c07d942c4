use Rattle.std.proofs.Common.{◌≡◌, ◌++◌, ◌∷◌, [], map, drop, List, ℕ, Bor}
use Rattle.std.specs.Prelude.{All, filter}
use Rattle.serde_json.specs.View.{view}
use Rattle.std.specs.List.Sorted.{IsStrictlyIncreasing}
use Rattle.manifests.specs.declared.site.Site.{Site}
use Rattle.manifests.specs.Sites.{IsInJson, is_expression, numbers_of}
use Rattle.manifests.specs.Steps.{json_steps}
use Rattle.manifests.proofs.json_sites.sites_of.Given as goal

abbrev pub invariant-loop-number : goal.invariant-loop-number
invariant-loop-number l =
    let shown : Bor (List ℕ) → List ℕ = λ x. x.now in
    let text : Site → List ℕ = λ s. s.text.items in
    record {
      texts : filter (is_expression l.form) (map shown l.texts)
          ≡ map text l.sites.items ++ filter (is_expression l.form) (map shown (drop l.number l.texts));
      places : All (IsInJson l.placed.bytes.now (view l.placed.document.now) (map shown l.texts) (map json_steps l.placed.paths.now)) l.sites.items;
      ascend : IsStrictlyIncreasing (numbers_of l.sites.items ++ l.number ∷ []);
    }
