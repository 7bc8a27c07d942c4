use Rattle.std.proofs.Common.{◌≡◌, ◌++◌, map, drop, List, ℕ, Bor}
use Rattle.toml.specs.View.{items_view}
use Rattle.manifests.specs.Steps.{toml_steps}
use Rattle.manifests.specs.Toml.{annotations_paths, annotations_texts}
use Rattle.manifests.proofs.toml_texts.push_annotations.Given as goal

abbrev pub invariant-loop-number : goal.invariant-loop-number
invariant-loop-number l =
    let shown : Bor (List ℕ) → List ℕ = λ x. x.now in
    record {
      texts : map shown l.fn.found.texts.items ++ annotations_texts (items_view l.annotation-items)
          ≡ map shown l.found.texts.items ++ annotations_texts (items_view (drop l.number l.annotation-items));
      paths : map toml_steps l.fn.found.paths.items ++ annotations_paths 0 (items_view l.annotation-items)
          ≡ map toml_steps l.found.paths.items ++ annotations_paths l.number (items_view (drop l.number l.annotation-items));
    }
