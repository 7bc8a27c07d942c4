use Rattle.std.proofs.Common.{◌≡◌, map, drop}
use Rattle.std.specs.List.{list_any}
use Rattle.package_items.specs.Rows.{item_row}
use Rattle.package_sources.specs.CycloneDx.{is_concluded}
use Rattle.package_sources.proofs.formats.cyclonedx.has_concluded.Given as goal

abbrev pub invariant-loop-entry : goal.invariant-loop-entry
invariant-loop-entry l =
    list_any is_concluded (map item_row l.entries) ≡ list_any is_concluded (map item_row (drop l.entry-index l.entries))
