use Rattle.std.proofs.Common.{◌≡◌, ◌++◌, map, drop}
use Rattle.serde_json.specs.View.{items_view}
use Rattle.package_items.specs.Rows.{item_row}
use Rattle.package_items.specs.Items.{items_from}
use Rattle.package_items.proofs.item.items_of.Given as goal

abbrev pub invariant-loop-index : goal.invariant-loop-index
invariant-loop-index l =
    items_from l.at 0 (items_view l.value-items) ≡ map item_row l.items.items ++ items_from l.at l.index-counter (items_view (drop l.index-counter l.value-items))
