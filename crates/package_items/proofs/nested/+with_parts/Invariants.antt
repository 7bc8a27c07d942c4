use Rattle.std.proofs.Common.{◌≡◌, ◌++◌, ◌-◌, Ok, map, drop}
use Rattle.package_items.specs.Rows.{item_row}
use Rattle.package_items.specs.Members.{on_ok}
use Rattle.package_items.specs.Items.{all_of}
use Rattle.package_items.specs.Nested.{parts_row, with_parts}
use Rattle.package_items.proofs.nested.+with_parts.Given as goal

abbrev pub decreases-with_parts : goal.decreases-with_parts
decreases-with_parts l = l.levels

abbrev pub invariant-loop-part : goal.invariant-loop-part
invariant-loop-part l =
    with_parts (parts_row l.parts) l.levels (item_row l.item)
    ≡ on_ok (all_of (λ x. with_parts (parts_row l.parts) (l.levels - 1) x) (map item_row (drop l.part-index l.part-items))) (λ more. Ok (map item_row l.all.items ++ more))
