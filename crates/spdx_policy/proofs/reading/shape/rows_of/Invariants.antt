use Rattle.std.proofs.Common.{◌≡◌, ◌++◌, Ok, map, drop}
use Rattle.toml.specs.View.{items_view}
use Rattle.spdx_policy.specs.Shape.{on_ok, rows_from}
use Rattle.spdx_policy.proofs.reading.shape.rows_of.Given as goal

abbrev pub invariant-loop-index : goal.invariant-loop-index
invariant-loop-index g l =
    rows_from g.R.Row.reads l.key 0 (items_view l.item-items)
    ≡ on_ok (rows_from g.R.Row.reads l.key l.index (items_view (drop l.index l.item-items))) (λ rows. Ok (map g.R.Row.shown l.rows.items ++ rows))
