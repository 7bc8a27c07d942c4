use Rattle.std.proofs.Common.{◌≡◌, ◌++◌, Ok, map, drop}
use Rattle.std.specs.Option.{option_copied}
use Rattle.package_items.specs.Rows.{row_of, item_row}
use Rattle.package_items.specs.Members.{on_ok}
use Rattle.package_items.specs.Items.{each}
use Rattle.package_sources.specs.Spdx.{spdx}
use Rattle.package_sources.proofs.formats.spdx.spdx_packages.Given as goal

abbrev pub invariant-loop-item : goal.invariant-loop-item
invariant-loop-item l =
    each (λ i. spdx (option_copied l.root) i) (map item_row l.items)
    ≡ on_ok (each (λ i. spdx (option_copied l.root) i) (map item_row (drop l.item-index l.items)))
    (λ rows. Ok (map row_of l.packages.items ++ rows))
