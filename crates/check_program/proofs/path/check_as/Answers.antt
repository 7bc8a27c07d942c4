use Rattle.source_trees.specs.declared.reading.Reading.TheVariants as reading
use Rattle.check_files.specs.Tally.{tally_of}
use Rattle.check_files.proofs.Steps.{on_ok}
use Rattle.check_program.specs.Paths.{ways_of}
use Rattle.check_program.proofs.Paths.{as_is}
use Rattle.check_files.proofs.Begun.{on_err}
use Rattle.check_program.proofs.Begun.{read_begun}
use Rattle.std.proofs.Common.{subst}
use Rattle.check_files.specs.Told.{Does}
use Rattle.check_program.specs.TreeBegun.{IsTreeBegun}
use Rattle.check_program.specs.Trees.{Manner}
use Rattle.check_program.proofs.path.check_as.Goals as goal

pub returns-in-Lines-clause-ok : goal.returns-in-Lines-clause-ok
returns-in-Lines-clause-ok g c =
    on_ok c.check_list.result _ _
    (as_is (g.S.Shelf.told c.args.shelf.now) c.args.check.now (ways_of c.args.ways) reading.Lines c.args.reading c.args.path.now (g.O.Sink.told c.args.output.now) (g.O.Sink.told c.check_list.new.output)
    (g.T.Telling.told c.args.teller.now) (g.T.Telling.told c.check_list.new.teller) (tally_of c.args.sums.now) (tally_of c.check_list.new.sums) c.in-Lines.is)
    c.check_list.ensures.ok

pub returns-in-Tags-clause-ok : goal.returns-in-Tags-clause-ok
returns-in-Tags-clause-ok g c =
    on_ok c.check_whole.result _ _
    (as_is (g.S.Shelf.told c.args.shelf.now) c.args.check.now (ways_of c.args.ways) reading.Tags c.args.reading c.args.path.now (g.O.Sink.told c.args.output.now) (g.O.Sink.told c.check_whole.new.output)
    (g.T.Telling.told c.args.teller.now) (g.T.Telling.told c.check_whole.new.teller) (tally_of c.args.sums.now) (tally_of c.check_whole.new.sums) c.in-Tags.is)
    c.check_whole.ensures.ok

pub returns-in-Manifest-clause-ok : goal.returns-in-Manifest-clause-ok
returns-in-Manifest-clause-ok g c =
    on_ok c.check_whole-in-Manifest.result _ _
    (as_is (g.S.Shelf.told c.args.shelf.now) c.args.check.now (ways_of c.args.ways) (reading.Manifest c.in-Manifest.form) c.args.reading c.args.path.now (g.O.Sink.told c.args.output.now) (g.O.Sink.told c.check_whole-in-Manifest.new.output)
    (g.T.Telling.told c.args.teller.now) (g.T.Telling.told c.check_whole-in-Manifest.new.teller) (tally_of c.args.sums.now) (tally_of c.check_whole-in-Manifest.new.sums) c.in-Manifest.is)
    c.check_whole-in-Manifest.ensures.ok

pub returns-in-Lines-clause-begun : goal.returns-in-Lines-clause-begun
returns-in-Lines-clause-begun g c =
    on_err c.check_list.result _ _
    (read_begun (g.S.Shelf.told c.args.shelf.now) c.args.check.now (ways_of c.args.ways) reading.Lines c.args.reading c.args.path.now (g.O.Sink.told c.args.output.now) (g.O.Sink.told c.check_list.new.output)
    (g.T.Telling.told c.args.teller.now) (g.T.Telling.told c.check_list.new.teller) (tally_of c.args.sums.now) c.in-Lines.is)
    c.check_list.ensures.begun

pub returns-in-Tags-clause-begun : goal.returns-in-Tags-clause-begun
returns-in-Tags-clause-begun g c =
    on_err c.check_whole.result _ _
    (read_begun (g.S.Shelf.told c.args.shelf.now) c.args.check.now (ways_of c.args.ways) reading.Tags c.args.reading c.args.path.now (g.O.Sink.told c.args.output.now) (g.O.Sink.told c.check_whole.new.output)
    (g.T.Telling.told c.args.teller.now) (g.T.Telling.told c.check_whole.new.teller) (tally_of c.args.sums.now) c.in-Tags.is)
    c.check_whole.ensures.begun

pub returns-in-Manifest-clause-begun : goal.returns-in-Manifest-clause-begun
returns-in-Manifest-clause-begun g c =
    on_err c.check_whole-in-Manifest.result _ _
    (read_begun (g.S.Shelf.told c.args.shelf.now) c.args.check.now (ways_of c.args.ways) (reading.Manifest c.in-Manifest.form) c.args.reading c.args.path.now (g.O.Sink.told c.args.output.now) (g.O.Sink.told c.check_whole-in-Manifest.new.output)
    (g.T.Telling.told c.args.teller.now) (g.T.Telling.told c.check_whole-in-Manifest.new.teller) (tally_of c.args.sums.now) c.in-Manifest.is)
    c.check_whole-in-Manifest.ensures.begun

pub returns-in-Tree-clause-begun : goal.returns-in-Tree-clause-begun
returns-in-Tree-clause-begun g c =
    let s = g.S.Shelf.told c.args.shelf.now in
    let check = c.args.check.now in
    let ways = ways_of c.args.ways in
    let path = c.args.path.now in
    let old = tally_of c.args.sums.now in
    let out = g.O.Sink.told c.args.output.now in
    let out' = g.O.Sink.told c.check_tree.new.output in
    let h = g.T.Telling.told c.args.teller.now in
    let k = g.T.Telling.told c.check_tree.new.teller in
    on_err c.check_tree.result _ _
    (λ d.
    read_begun s check ways (reading.Tree c.in-Tree.taken) c.args.reading path out out' h k old c.in-Tree.is
    (subst (λ (m : Manner). Does out out' h k (λ text told. IsTreeBegun s check m path old text told)) c.below.ensures d))
    c.check_tree.ensures.begun
