use Rattle.std.proofs.Common.{◌≡◌, ◌++◌, map, drop, List, ℕ, Bor}
use Rattle.serde_json.specs.View.{items_view}
use Rattle.package_sources.specs.Described.{related_among}
use Rattle.package_sources.proofs.formats.described.push_related.Given as goal

abbrev pub invariant-loop-item : goal.invariant-loop-item
invariant-loop-item l =
    let shown : Bor (List ℕ) → List ℕ = λ x. x.now in
    map shown l.fn.texts.items ++ related_among (items_view l.items.items)
    ≡ map shown l.texts.items ++ related_among (items_view (drop l.item-index l.items.items))
