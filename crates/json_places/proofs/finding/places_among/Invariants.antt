use Rattle.std.proofs.Common.{take}
use Rattle.serde_json.specs.View.{view}
use Rattle.json_places.specs.Places.{ArePlaces}
use Rattle.json_places.proofs.finding.places_among.Given as goal

abbrev pub invariant-loop-path : goal.invariant-loop-path
invariant-loop-path l = ArePlaces l.bytes (view l.document) (take l.path-index l.paths) l.found.items
