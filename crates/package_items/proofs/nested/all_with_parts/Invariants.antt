use Rattle.std.proofs.Common.{◌≡◌, ◌++◌, Ok, map, drop}
use Rattle.package_items.specs.Rows.{item_row}
use Rattle.package_items.specs.Members.{on_ok}
use Rattle.package_items.specs.Items.{all_of}
use Rattle.package_items.specs.Nested.{parts_row, with_parts}
use Rattle.package_items.proofs.nested.all_with_parts.Given as goal

abbrev pub invariant-loop-item : goal.invariant-loop-item
invariant-loop-item l =
    all_of (λ i. with_parts (parts_row l.parts) l.levels i) (map item_row l.items)
    ≡ on_ok (all_of (λ i. with_parts (parts_row l.parts) l.levels i) (map item_row (drop l.item-index l.items))) (λ more. Ok (map item_row l.all.items ++ more))
