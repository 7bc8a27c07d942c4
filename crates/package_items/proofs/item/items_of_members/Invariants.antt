use Rattle.std.proofs.Common.{◌≡◌, ◌++◌, map}
use Rattle.serde_json.specs.View.{members_view}
use Rattle.package_items.specs.Rows.{item_row}
use Rattle.package_items.specs.Items.{items_named}
use Rattle.package_items.proofs.item.items_of_members.Given as goal

abbrev pub invariant-loop-key : goal.invariant-loop-key
invariant-loop-key l =
    items_named l.at (members_view l.fn.members.entries) ≡ map item_row l.items.items ++ items_named l.at (members_view l.key-iterator)
