use Rattle.std.proofs.Common.{◌≡◌, ◌++◌, Ok, map, drop, string_bytes}
use Rattle.toml.specs.View.{items_view}
use Rattle.spdx_policy.specs.Shape.{on_ok, texts_from}
use Rattle.spdx_policy.proofs.reading.shape.texts_of.Given as goal

abbrev pub invariant-loop-index : goal.invariant-loop-index
invariant-loop-index l =
    texts_from l.section l.key 0 (items_view l.item-items)
    ≡ on_ok (texts_from l.section l.key l.index (items_view (drop l.index l.item-items))) (λ more. Ok (map string_bytes l.texts.items ++ more))
