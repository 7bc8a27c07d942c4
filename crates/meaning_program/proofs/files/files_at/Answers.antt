use Rattle.meaning_program.specs.Files.{IsEndOf}
use Rattle.meaning_program.proofs.Ends.{one_more}
use Rattle.meaning_program.proofs.files.files_at.Goals as goal

pub loop-path-preserved : goal.loop-path-preserved
loop-path-preserved g c =
    one_more (IsEndOf (g.S.Shelf.told c.args.shelf.now) c.args.catalogue.now c.args.is_lax) c.args.paths.now c.loop-path.path-index _ c.loop-path.files.items _ _
    c.loop-path-test.true c.loop-path.invariant c.in_ok-end_of.ensures c.in_ok-push.ensures.items
