use Rattle.std.specs.Option.{option_copied}
use Rattle.notice_program.specs.Taken.{entry_of, taken, used_by}
use Rattle.notice_program.proofs.Zips.{found, zip_more}
use Rattle.notice_program.proofs.taken.all_taken.Goals as goal

pub loop-place-preserved : goal.loop-place-preserved
loop-place-preserved c =
    zip_more entry_of used_by taken c.args.entries.now c.args.used.now c.loop-place.place c.index-entries-place.result c.index-entries-place.result (option_copied c.get.result) _ _
    c.loop-place.invariant c.loop-place-test.true c.index-entries-place.is (found c.args.used.now c.loop-place.place c.get.result _ c.get.ensures.lookup.1 c.get.ensures.lookup.3) c.in_ok-put_taken.ensures
