use Rattle.std.proofs.lemmas.List.{take_more}
use Rattle.std.proofs.Common.{take}
use Rattle.toml_places.proofs.Placed.{ArePlaces-push}
use Rattle.toml_places.proofs.finding.places_among.Goals as goal

pub loop-path-preserved : goal.loop-path-preserved
loop-path-preserved c =
    let l = c.loop-path in
    rw (take_more c.args.paths.now l.path-index c.path-item.result c.loop-path-test.true, ← c.path-item.is, c.in_ok-push.ensures.items) (
    ArePlaces-push c.args.text.now _ (take l.path-index c.args.paths.now) l.found.items c.path-item.result c.in_ok-place.field-0 l.invariant c.in_ok-place.ensures
    )
