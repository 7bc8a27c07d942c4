use Rattle.std.proofs.Common.{subst, ℕ, List, Option, sym, refl}
use Rattle.source_trees.specs.Walks.{waiting}
use Rattle.check_files.specs.Noted.{notes_of}
use Rattle.check_files.specs.Tally.{tally_of}
use Rattle.check_files.proofs.Steps.{on_ok}
use Rattle.check_program.specs.Ends.{IsTextsFolder}
use Rattle.check_program.specs.Trees.{manner_of}
use Rattle.check_program.proofs.Ending.{tree_checked}
use Rattle.line_engine.proofs.Known.{OnErr-always}
use Rattle.check_files.proofs.Begun.{on_err}
use Rattle.check_program.proofs.TreeBegun.{tree_in_end, tree_in_walk, tree_unseen}
use Rattle.check_program.proofs.tree.check_below.Goals as goal

pub returns-clause-ok : goal.returns-clause-ok
returns-clause-ok g c =
    on_ok c.end_folder.result _ _
    (λ ended begun.
    tree_checked (g.S.Shelf.told c.args.shelf.now) c.args.check.now (manner_of c.args.manner) c.args.path.now _ (waiting c.args.walk) (notes_of c.new-noted.result) (notes_of c.walked.new.noted)
    (g.O.Sink.told c.args.output.now) (g.O.Sink.told c.walked.new.output) (g.O.Sink.told c.end_folder.new.output) (g.T.Telling.told c.args.teller.now) (g.T.Telling.told c.walked.new.teller)
    (g.T.Telling.told c.end_folder.new.teller) (tally_of c.args.sums.now) (tally_of c.walked.new.sums) (tally_of c.end_folder.new.sums)
    (subst (λ (f : Option (List ℕ)). IsTextsFolder (g.S.Shelf.told c.args.shelf.now) (manner_of c.args.manner).texts c.args.path.now f) (sym c.text_of.ensures) c.in_ok-folder.ensures)
    c.new-noted.ensures c.in_ok-walked.ensures.ok ended begun)
    c.end_folder.ensures.ok

pub returns-in_err-folder-clause-begun : goal.returns-in_err-folder-clause-begun
returns-in_err-folder-clause-begun g c =
    OnErr-always c.from_residual.result _
    (λ begun.
    tree_unseen (g.S.Shelf.told c.args.shelf.now) c.args.check.now (manner_of c.args.manner) c.args.path.now (tally_of c.args.sums.now) (g.O.Sink.told c.args.output.now)
    (g.T.Telling.told c.args.teller.now) (g.T.Telling.told c.args.teller.now) refl)

pub returns-in_err-walked-clause-begun : goal.returns-in_err-walked-clause-begun
returns-in_err-walked-clause-begun g c =
    OnErr-always c.from_residual-in_err-walked.result _
    (tree_in_walk (g.S.Shelf.told c.args.shelf.now) c.args.check.now (manner_of c.args.manner) c.args.path.now (tally_of c.args.sums.now) _ (waiting c.args.walk) (notes_of c.new-noted.result)
    (subst (λ (f : Option (List ℕ)). IsTextsFolder (g.S.Shelf.told c.args.shelf.now) (manner_of c.args.manner).texts c.args.path.now f) (sym c.text_of.ensures) c.in_ok-folder.ensures)
    c.new-noted.ensures (g.O.Sink.told c.args.output.now) (g.O.Sink.told c.walked.new.output) (g.T.Telling.told c.args.teller.now) (g.T.Telling.told c.walked.new.teller)
    c.in_err-walked.ensures.begun)

pub returns-clause-begun : goal.returns-clause-begun
returns-clause-begun g c =
    on_err c.end_folder.result _ _
    (tree_in_end (g.S.Shelf.told c.args.shelf.now) c.args.check.now (manner_of c.args.manner) c.args.path.now (tally_of c.args.sums.now) _ (waiting c.args.walk) (notes_of c.new-noted.result)
    (subst (λ (f : Option (List ℕ)). IsTextsFolder (g.S.Shelf.told c.args.shelf.now) (manner_of c.args.manner).texts c.args.path.now f) (sym c.text_of.ensures) c.in_ok-folder.ensures)
    c.new-noted.ensures (notes_of c.walked.new.noted) (g.O.Sink.told c.args.output.now) (g.O.Sink.told c.walked.new.output) (g.O.Sink.told c.end_folder.new.output)
    (g.T.Telling.told c.args.teller.now) (g.T.Telling.told c.walked.new.teller) (g.T.Telling.told c.end_folder.new.teller) (tally_of c.walked.new.sums) c.in_ok-walked.ensures.ok)
    c.end_folder.ensures.begun
