use Rattle.std.proofs.Common.{◌≡◌, map, drop}
use Rattle.std.specs.List.{list_any}
use Rattle.package_items.specs.Rows.{item_row}
use Rattle.package_sources.specs.Cargo.{is_item}
use Rattle.package_sources.proofs.formats.cargo.is_among.Given as goal

abbrev pub invariant-loop-item : goal.invariant-loop-item
invariant-loop-item l =
    list_any (is_item l.text) (map item_row l.items) ≡ list_any (is_item l.text) (map item_row (drop l.item-index l.items))
