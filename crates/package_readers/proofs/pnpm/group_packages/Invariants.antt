use Rattle.std.proofs.Common.{◌≡◌, ◌++◌, Ok, map, drop}
use Rattle.package_items.specs.Rows.{row_of, item_row}
use Rattle.package_items.specs.Members.{on_ok}
use Rattle.package_items.specs.Items.{all_of}
use Rattle.package_readers.specs.Pnpm.{packages_of, group_packages}
use Rattle.package_readers.proofs.pnpm.group_packages.Given as goal

abbrev pub invariant-loop-item : goal.invariant-loop-item
invariant-loop-item l =
    group_packages (item_row l.group)
    ≡ on_ok (all_of (packages_of l.group.key.now) (map item_row (drop l.item-index l.item-items))) (λ rows. Ok (map row_of l.packages.items ++ rows))
