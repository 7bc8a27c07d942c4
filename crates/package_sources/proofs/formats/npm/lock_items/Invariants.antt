use Rattle.std.proofs.Common.{◌≡◌, ◌++◌, map, drop}
use Rattle.serde_json.specs.View.{view}
use Rattle.package_items.specs.Rows.{item_row}
use Rattle.package_sources.specs.Npm.{lock_items}
use Rattle.package_sources.proofs.formats.npm.lock_items.Given as goal

abbrev pub invariant-loop-entry : goal.invariant-loop-entry
invariant-loop-entry l =
    lock_items l.stand_in (view l.entries) (map item_row l.members)
    ≡ map item_row l.items.items ++ lock_items l.stand_in (view l.entries) (map item_row (drop l.entry-index l.members))
