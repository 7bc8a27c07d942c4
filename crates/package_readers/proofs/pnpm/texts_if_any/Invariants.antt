use Rattle.std.proofs.Common.{◌≡◌, ◌++◌, Ok, map, drop}
use Rattle.std.specs.Option.{option_copied}
use Rattle.package_items.specs.Rows.{item_row}
use Rattle.package_items.specs.Members.{on_ok}
use Rattle.package_items.specs.Items.{each}
use Rattle.package_readers.specs.Pnpm.{path_of}
use Rattle.package_readers.proofs.pnpm.texts_if_any.Given as goal

abbrev pub invariant-loop-item : goal.invariant-loop-item
invariant-loop-item l =
    each path_of (map item_row l.items)
    ≡ on_ok (each path_of (map item_row (drop l.item-index l.items))) (λ rest. Ok (map option_copied l.texts.items ++ rest))
