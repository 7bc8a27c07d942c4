-- How many rows items have.
use Rattle.std.proofs.Common.{◌≡◌, List, map, length}
use Rattle.std.proofs.lemmas.List.{length-map}
use Rattle.package_items.specs.declared.item.Item.{Item}
use Rattle.package_items.specs.Rows.{item_row}

pub same_count : (is : List Item) → length (map item_row is) ≡ length is
same_count is = length-map is item_row
