use Rattle.std.proofs.Common.{◌≡◌, ◌++◌, map, drop, List, ℕ, Bor}
use Rattle.serde_json.specs.View.{items_view}
use Rattle.manifests.specs.Json.{paths_among, texts_among}
use Rattle.manifests.specs.Steps.{json_steps}
use Rattle.manifests.proofs.json_texts.push_items.Given as goal

abbrev pub invariant-loop-index : goal.invariant-loop-index
invariant-loop-index l =
    let shown : Bor (List ℕ) → List ℕ = λ x. x.now in
    record {
      texts : map shown l.fn.found.texts.items ++ texts_among (items_view l.item-items)
          ≡ map shown l.found.texts.items ++ texts_among (items_view (drop l.index l.item-items));
      paths : map json_steps l.fn.found.paths.items ++ paths_among l.key 0 (items_view l.item-items)
          ≡ map json_steps l.found.paths.items ++ paths_among l.key l.index (items_view (drop l.index l.item-items));
    }
