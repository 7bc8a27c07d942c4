use Rattle.std.proofs.Common.{◌≡◌, ◌++◌, map, drop}
use Rattle.std.specs.Option.{option_copied}
use Rattle.package_items.specs.Rows.{row_of, item_row}
use Rattle.package_readers.specs.Pnpm.{each_version, each_from}
use Rattle.package_readers.proofs.pnpm.each_version.Given as goal

abbrev pub invariant-loop-index : goal.invariant-loop-index
invariant-loop-index l =
    each_version l.text (item_row l.item) l.name (map option_copied l.folders) (map option_copied l.versions)
    ≡ map row_of l.packages.items
    ++ each_from l.index l.text (item_row l.item) l.name (map option_copied l.folders) (map option_copied (drop l.index l.versions))
