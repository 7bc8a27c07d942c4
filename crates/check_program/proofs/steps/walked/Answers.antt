use Rattle.std.proofs.Common.{Option, subst}
use Rattle.std.specs.Option.{option_copied}
use Rattle.source_trees.specs.declared.walk.Seen.{Seen}
use Rattle.source_trees.specs.Walks.{IsNext, waiting}
use Rattle.check_files.specs.Noted.{notes_of}
use Rattle.check_files.specs.Tally.{tally_of}
use Rattle.check_program.proofs.Walked.{begun, ended, further}
use Rattle.line_engine.proofs.Known.{OnErr-always}
use Rattle.check_files.proofs.Doing.{hears_nil}
use Rattle.check_program.proofs.TreeBegun.{at_next, before_next}
use Rattle.check_program.proofs.steps.walked.Goals as goal

pub loop-turn-init : goal.loop-turn-init
loop-turn-init g c =
    begun (g.S.Shelf.told c.args.shelf.now) c.args.check.now c.args.below.taken (option_copied c.args.below.folder) (waiting c.args.walk) (tally_of c.args.sums.now) (notes_of c.args.noted.now)
    (g.O.Sink.told c.args.output.now) (g.T.Telling.told c.args.teller.now)

pub loop-turn-preserved : goal.loop-turn-preserved
loop-turn-preserved g c =
    let s = g.S.Shelf.told c.args.shelf.now in
    let is = subst (λ (o : Option Seen). IsNext s (waiting c.loop-turn.walk) o (waiting c.next.new.self)) c.in-Some.is c.in_ok-seen.ensures in
    further s c.args.check.now c.args.below.taken (option_copied c.args.below.folder) (waiting c.args.walk) (waiting c.loop-turn.walk) (waiting c.next.new.self) c.in-Some.seen (tally_of c.args.sums.now)
    (tally_of c.loop-turn.sums) (tally_of c.check_seen.new.sums) (notes_of c.args.noted.now) (notes_of c.loop-turn.noted) (notes_of c.check_seen.new.noted) (g.O.Sink.told c.args.output.now)
    (g.O.Sink.told c.loop-turn.output) (g.O.Sink.told c.check_seen.new.output) (g.T.Telling.told c.args.teller.now) (g.T.Telling.told c.loop-turn.teller) (g.T.Telling.told c.show_one_more.new.teller)
    (g.T.Telling.told c.check_seen.new.teller) c.loop-turn.invariant is c.show_one_more.ensures c.in_ok-check_seen.ensures.ok

pub returns-in_default-clause-ok : goal.returns-in_default-clause-ok
returns-in_default-clause-ok g c =
    let s = g.S.Shelf.told c.args.shelf.now in
    let is = subst (λ (o : Option Seen). IsNext s (waiting c.loop-turn.walk) o (waiting c.next.new.self)) c.in_default.is c.in_ok-seen.ensures in
    ended s c.args.check.now c.args.below.taken (option_copied c.args.below.folder) (waiting c.args.walk) (waiting c.loop-turn.walk) (waiting c.next.new.self) (tally_of c.args.sums.now)
    (tally_of c.loop-turn.sums) (notes_of c.args.noted.now) (notes_of c.loop-turn.noted) (g.O.Sink.told c.args.output.now) (g.O.Sink.told c.loop-turn.output) (g.T.Telling.told c.args.teller.now)
    (g.T.Telling.told c.loop-turn.teller) (g.T.Telling.told c.ended.new.self) c.loop-turn.invariant is c.ended.ensures

pub returns-in_err-seen-clause-begun : goal.returns-in_err-seen-clause-begun
returns-in_err-seen-clause-begun g c =
    OnErr-always c.from_residual.result _
    (before_next (g.S.Shelf.told c.args.shelf.now) c.args.check.now c.args.below.taken (option_copied c.args.below.folder) (waiting c.args.walk) (waiting c.loop-turn.walk) (tally_of c.args.sums.now)
    (tally_of c.loop-turn.sums) (notes_of c.args.noted.now) (notes_of c.loop-turn.noted) (g.O.Sink.told c.args.output.now) (g.O.Sink.told c.loop-turn.output) (g.T.Telling.told c.args.teller.now)
    (g.T.Telling.told c.loop-turn.teller) c.loop-turn.invariant (g.T.Telling.told c.loop-turn.teller) (hears_nil (g.T.Telling.told c.loop-turn.teller)))

pub returns-in_err-files-clause-begun : goal.returns-in_err-files-clause-begun
returns-in_err-files-clause-begun g c =
    OnErr-always c.from_residual-in_err-files.result _
    (before_next (g.S.Shelf.told c.args.shelf.now) c.args.check.now c.args.below.taken (option_copied c.args.below.folder) (waiting c.args.walk) (waiting c.loop-turn.walk) (tally_of c.args.sums.now)
    (tally_of c.loop-turn.sums) (notes_of c.args.noted.now) (notes_of c.loop-turn.noted) (g.O.Sink.told c.args.output.now) (g.O.Sink.told c.loop-turn.output) (g.T.Telling.told c.args.teller.now)
    (g.T.Telling.told c.loop-turn.teller) c.loop-turn.invariant (g.T.Telling.told c.show_one_more.new.teller) c.show_one_more.ensures)

pub returns-in_err-check_seen-clause-begun : goal.returns-in_err-check_seen-clause-begun
returns-in_err-check_seen-clause-begun g c =
    let s = g.S.Shelf.told c.args.shelf.now in
    let is = subst (λ (o : Option Seen). IsNext s (waiting c.loop-turn.walk) o (waiting c.next.new.self)) c.in-Some.is c.in_ok-seen.ensures in
    OnErr-always c.from_residual-in_err-check_seen.result _
    (at_next s c.args.check.now c.args.below.taken (option_copied c.args.below.folder) (waiting c.args.walk) (waiting c.loop-turn.walk) (tally_of c.args.sums.now)
    (tally_of c.loop-turn.sums) (notes_of c.args.noted.now) (notes_of c.loop-turn.noted) (g.O.Sink.told c.args.output.now) (g.O.Sink.told c.loop-turn.output) (g.T.Telling.told c.args.teller.now)
    (g.T.Telling.told c.loop-turn.teller) c.loop-turn.invariant (waiting c.next.new.self) c.in-Some.seen (g.O.Sink.told c.check_seen.new.output) (g.T.Telling.told c.show_one_more.new.teller)
    (g.T.Telling.told c.check_seen.new.teller) is c.show_one_more.ensures c.in_err-check_seen.ensures.begun)

pub returns-clause-begun : goal.returns-clause-begun
returns-clause-begun g c =
    before_next (g.S.Shelf.told c.args.shelf.now) c.args.check.now c.args.below.taken (option_copied c.args.below.folder) (waiting c.args.walk) (waiting c.loop-turn.walk) (tally_of c.args.sums.now)
    (tally_of c.loop-turn.sums) (notes_of c.args.noted.now) (notes_of c.loop-turn.noted) (g.O.Sink.told c.args.output.now) (g.O.Sink.told c.loop-turn.output) (g.T.Telling.told c.args.teller.now)
    (g.T.Telling.told c.loop-turn.teller) c.loop-turn.invariant (g.T.Telling.told c.loop-turn.teller) (hears_nil (g.T.Telling.told c.loop-turn.teller))
