use Rattle.std.proofs.Common.{◌≡◌, ◌++◌, Ok, map, drop}
use Rattle.package_items.specs.Rows.{row_of, item_row}
use Rattle.package_items.specs.Members.{on_ok}
use Rattle.package_items.specs.Items.{all_of}
use Rattle.package_readers.specs.Pnpm.{group_packages, pnpm_packages}
use Rattle.serde_json.specs.View.{view}
use Rattle.package_readers.proofs.pnpm.pnpm_packages.Given as goal

abbrev pub invariant-loop-group : goal.invariant-loop-group
invariant-loop-group l =
    pnpm_packages (view l.document)
    ≡ on_ok (all_of group_packages (map item_row (drop l.group-index l.group-items))) (λ rows. Ok (map row_of l.packages.items ++ rows))
