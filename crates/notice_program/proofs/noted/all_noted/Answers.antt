use Rattle.std.specs.Option.{option_copied}
use Rattle.notice_program.specs.Noted.{noted, owns_by}
use Rattle.notice_program.specs.Taken.{taken_by}
use Rattle.notice_program.proofs.Zips.{found, zip_more}
use Rattle.notice_program.proofs.noted.all_noted.Goals as goal

pub loop-place-preserved : goal.loop-place-preserved
loop-place-preserved c =
    zip_more taken_by owns_by noted c.args.placed.now c.args.owns.now c.loop-place.place c.index-placed-place.result c.index-placed-place.result (option_copied c.get.result) _ _
    c.loop-place.invariant c.loop-place-test.true c.index-placed-place.is (found c.args.owns.now c.loop-place.place c.get.result _ c.get.ensures.lookup.1 c.get.ensures.lookup.3) c.in_ok-put_noted.ensures
