use Rattle.std.proofs.Common.{◌≡◌, ◌++◌, ◌∷◌, [], map, drop, List, ℕ, Bor}
use Rattle.std.specs.Prelude.{All}
use Rattle.toml.specs.View.{table_view}
use Rattle.std.specs.List.Sorted.{IsStrictlyIncreasing}
use Rattle.manifests.specs.declared.site.Site.{Site}
use Rattle.manifests.specs.Sites.{IsInToml, numbers_of}
use Rattle.manifests.specs.Steps.{toml_steps}
use Rattle.manifests.proofs.toml_sites.sites_of.Given as goal

abbrev pub invariant-loop-number : goal.invariant-loop-number
invariant-loop-number l =
    let shown : Bor (List ℕ) → List ℕ = λ x. x.now in
    let text : Site → List ℕ = λ s. s.text.items in
    record {
      texts : map shown l.texts
          ≡ map text l.sites.items ++ map shown (drop l.number l.texts);
      places : All (IsInToml l.placed.text.now (table_view l.placed.document.now) (map shown l.texts) (map toml_steps l.placed.paths.now)) l.sites.items;
      ascend : IsStrictlyIncreasing (numbers_of l.sites.items ++ l.number ∷ []);
    }
