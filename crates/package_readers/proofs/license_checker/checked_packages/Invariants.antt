use Rattle.std.proofs.Common.{◌≡◌, ◌++◌, Ok, map, drop}
use Rattle.package_items.specs.Rows.{row_of, item_row}
use Rattle.package_items.specs.Members.{on_ok}
use Rattle.package_items.specs.Items.{each}
use Rattle.package_readers.specs.LicenseChecker.{checked, checked_packages}
use Rattle.serde_json.specs.View.{view}
use Rattle.package_readers.proofs.license_checker.checked_packages.Given as goal

abbrev pub invariant-loop-item : goal.invariant-loop-item
invariant-loop-item l =
    checked_packages (view l.document)
    ≡ on_ok (each checked (map item_row (drop l.item-index l.item-items))) (λ rows. Ok (map row_of l.packages.items ++ rows))
