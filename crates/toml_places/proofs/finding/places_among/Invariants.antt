use Rattle.std.proofs.Common.{take}
use Rattle.toml.specs.View.{table_view}
use Rattle.toml_places.specs.Places.{ArePlaces}
use Rattle.toml_places.proofs.finding.places_among.Given as goal

abbrev pub invariant-loop-path : goal.invariant-loop-path
invariant-loop-path l = ArePlaces l.text (table_view l.document) (take l.path-index l.paths) l.found.items
