use Rattle.std.specs.Option.{option_copied}
use Rattle.choice_program.specs.Named.{shown_in}
use Rattle.notice_program.specs.Taken.{used}
use Rattle.notice_program.proofs.Zips.{found, zip_more}
use Rattle.notice_program.proofs.taken.used_of.Goals as goal

pub loop-place-preserved : goal.loop-place-preserved
loop-place-preserved c =
    zip_more shown_in shown_in used c.args.choices.now c.args.offered.now c.loop-place.place c.index-choices-place.result c.index-choices-place.result (option_copied c.get.result) _ _
    c.loop-place.invariant c.loop-place-test.true c.index-choices-place.is (found c.args.offered.now c.loop-place.place c.get.result _ c.get.ensures.lookup.1 c.get.ensures.lookup.3) (rw c.deref.ensures.value at c.in_ok-put_used.ensures)
