use Rattle.license_notice.proofs.Standing.{places_more}
use Rattle.license_notice.proofs.places.all_places.Goals as goal

pub loop-number-preserved : goal.loop-number-preserved
loop-number-preserved c =
    places_more c.args.lists.now c.loop-number.number c.loop-number-test.true _ _ c.loop-number.invariant c.in_ok-put_places.ensures
