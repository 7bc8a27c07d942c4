use Rattle.std.proofs.Common.{◌≡◌, ◌++◌, Ok, map, drop}
use Rattle.serde_json.specs.View.{items_view}
use Rattle.spdx_list.specs.Items.{on_ok, rows_from}
use Rattle.spdx_list.proofs.tables.item.items_of.Given as goal

abbrev pub invariant-loop-index : goal.invariant-loop-index
invariant-loop-index g l =
    rows_from g.R.Item.reads l.table 0 (items_view l.item-items)
    ≡ on_ok (rows_from g.R.Item.reads l.table l.index (items_view (drop l.index l.item-items))) (λ rows. Ok (map g.R.Item.shown l.rows.items ++ rows))
