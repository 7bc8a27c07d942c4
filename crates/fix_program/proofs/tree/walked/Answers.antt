use Rattle.std.proofs.Common.{Option, refl, subst}
use Rattle.source_trees.specs.declared.walk.Seen.{Seen}
use Rattle.source_trees.specs.Walks.{IsNext, waiting}
use Rattle.fix_program.specs.Shown.{none}
use Rattle.fix_program.proofs.Shown.{both_shown, one_shown}
use Rattle.fix_program.proofs.Walked.{begun, ended, further}
use Rattle.fix_program.proofs.tree.walked.Goals as goal

pub loop-turn-init : goal.loop-turn-init
loop-turn-init g c = (
  begun (g.S.Shelf.told c.args.shelf.now) c.args.manner.catalogue.now c.args.manner.is_written c.args.taken (waiting c.args.walk) (waiting c.args.walk) c.new-ends.result.items refl c.new-ends.ensures.items,
  none c.args.progress.now,
)

pub loop-turn-preserved : goal.loop-turn-preserved
loop-turn-preserved g c =
    let s = g.S.Shelf.told c.args.shelf.now in
    let is = subst (λ (o : Option Seen). IsNext s (waiting c.loop-turn.walk) o (waiting c.next.new.self)) c.in-Some.is c.in_ok-seen.ensures in
    let are = further s c.args.manner.catalogue.now c.args.manner.is_written c.args.taken (waiting c.args.walk) (waiting c.loop-turn.walk) (waiting c.next.new.self) c.in-Some.seen c.loop-turn.ends.items c.add_ends.new.ends.items
    c.loop-turn.invariant.0 is c.in_ok-add_ends.ensures in
    (are, both_shown g.P.Progress.Shows c.loop-turn.invariant.1 c.show_one_more.ensures)

pub returns-in_default-clause-ends : goal.returns-in_default-clause-ends
returns-in_default-clause-ends g c =
    let s = g.S.Shelf.told c.args.shelf.now in
    let is = subst (λ (o : Option Seen). IsNext s (waiting c.loop-turn.walk) o (waiting c.next.new.self)) c.in_default.is c.in_ok-seen.ensures in
    ended s c.args.manner.catalogue.now c.args.manner.is_written c.args.taken (waiting c.args.walk) (waiting c.loop-turn.walk) (waiting c.next.new.self) c.loop-turn.ends.items c.loop-turn.invariant.0 is

pub returns-in_default-clause-shows : goal.returns-in_default-clause-shows
returns-in_default-clause-shows g c =
    both_shown g.P.Progress.Shows c.loop-turn.invariant.1 (one_shown g.P.Progress.Shows c.loop-turn.progress c.ended.new.self c.ended.ensures)

pub returns-in_err-files-clause-shows : goal.returns-in_err-files-clause-shows
returns-in_err-files-clause-shows g c = both_shown g.P.Progress.Shows c.loop-turn.invariant.1 c.show_one_more.ensures

pub returns-in_err-add_ends-clause-shows : goal.returns-in_err-add_ends-clause-shows
returns-in_err-add_ends-clause-shows g c = both_shown g.P.Progress.Shows c.loop-turn.invariant.1 c.show_one_more.ensures
