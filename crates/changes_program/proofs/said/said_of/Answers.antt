use Rattle.std.proofs.Common.{ap, map}
use Rattle.changes_program.specs.Said.{said_row}
use Rattle.changes_program.proofs.Saying.{none_yet, one_more}
use Rattle.changes_program.proofs.said.said_of.Goals as goal

pub loop-change-init : goal.loop-change-init
loop-change-init c = none_yet c.args.catalogue.now (map said_row c.new-said.result.items) (ap (map said_row) c.new-said.ensures.items)

pub loop-change-preserved : goal.loop-change-preserved
loop-change-preserved c =
    one_more c.args.catalogue.now c.args.changes.now c.loop-change.change-index _
    (map said_row c.loop-change.said.items) (map said_row c.add.new.said.items)
    c.loop-change.invariant c.loop-change-test.true c.in_ok-add.ensures
