use Rattle.std.proofs.Common.{◌∙◌, ℕ, List, subst, sym, refl}
use Rattle.std.specs.Option.{option_copied}
use Rattle.check_files.specs.Noted.{notes_of}
use Rattle.check_files.specs.Tally.{tally_of}
use Rattle.check_files.proofs.Steps.{file_passed, on_ok}
use Rattle.check_files.proofs.Wholes.{file_done}
use Rattle.line_engine.proofs.Known.{OnErr-always}
use Rattle.check_files.proofs.Begun.{file_begun, file_unread, on_err}
use Rattle.check_files.proofs.file.check_file.Goals as goal

pub returns-in_ok-path-in-Err-clause-ok : goal.returns-in_ok-path-in-Err-clause-ok
returns-in_ok-path-in-Err-clause-ok g c =
    on_ok c.pass_over.result _ _
    (λ p. file_passed (g.O.Sink.told c.args.output.now) (g.T.Telling.told c.args.teller.now) (g.T.Telling.told c.pass_over.new.teller) (g.S.Shelf.told c.args.shelf.now)
    c.args.check.now c.args.below.taken (option_copied c.args.below.folder) c.args.path.now (tally_of c.args.sums.now) (tally_of c.pass_over.new.sums) (notes_of c.args.noted.now)
    c.in_ok-path-in-Err.path c.in-Err.error (sym c.is_wanted.ensures ∙ c.if-not-is_wanted.false) c.in_ok-path-in-Err.ensures.ok c.in-Err.ensures.err p)
    c.pass_over.ensures.ok

pub returns-in-Ok-clause-ok : goal.returns-in-Ok-clause-ok
returns-in-Ok-clause-ok g c =
    on_ok c.check_bytes.result _ _
    (file_done (g.O.Sink.told c.args.output.now) (g.O.Sink.told c.check_bytes.new.output) (g.T.Telling.told c.args.teller.now) (g.S.Shelf.told c.args.shelf.now) c.args.check.now c.args.below.taken
    (option_copied c.args.below.folder) c.args.path.now c.deref.result.now (tally_of c.args.sums.now) (tally_of c.check_bytes.new.sums) (notes_of c.args.noted.now) (notes_of c.check_bytes.new.noted)
    (sym c.is_wanted.ensures ∙ c.if-not-is_wanted.false)
    (subst (λ (bs : List ℕ). (g.S.Shelf.told c.args.shelf.now).Holds c.args.path.now bs) (sym c.deref.ensures.value) c.in-Ok.ensures.ok))
    c.check_bytes.ensures.ok

pub returns-in-Ok-clause-begun : goal.returns-in-Ok-clause-begun
returns-in-Ok-clause-begun g c =
    on_err c.check_bytes.result _ _
    (file_begun (g.S.Shelf.told c.args.shelf.now) c.args.check.now c.args.below.taken (option_copied c.args.below.folder) c.args.path.now (tally_of c.args.sums.now) (notes_of c.args.noted.now)
    (g.O.Sink.told c.args.output.now) (g.O.Sink.told c.check_bytes.new.output) (g.T.Telling.told c.args.teller.now) c.deref.result.now
    (subst (λ (bs : List ℕ). (g.S.Shelf.told c.args.shelf.now).Holds c.args.path.now bs) (sym c.deref.ensures.value) c.in-Ok.ensures.ok))
    c.check_bytes.ensures.begun

pub returns-in_err-path-in-Err-clause-begun : goal.returns-in_err-path-in-Err-clause-begun
returns-in_err-path-in-Err-clause-begun g c =
    OnErr-always c.from_residual.result _
    (file_unread (g.S.Shelf.told c.args.shelf.now) c.args.check.now c.args.below.taken (option_copied c.args.below.folder) c.args.path.now (tally_of c.args.sums.now) (notes_of c.args.noted.now)
    (g.O.Sink.told c.args.output.now) (g.T.Telling.told c.args.teller.now) (g.T.Telling.told c.args.teller.now) refl)

pub returns-in_ok-path-in-Err-clause-begun : goal.returns-in_ok-path-in-Err-clause-begun
returns-in_ok-path-in-Err-clause-begun g c =
    on_err c.pass_over.result _ _
    (file_unread (g.S.Shelf.told c.args.shelf.now) c.args.check.now c.args.below.taken (option_copied c.args.below.folder) c.args.path.now (tally_of c.args.sums.now) (notes_of c.args.noted.now)
    (g.O.Sink.told c.args.output.now) (g.T.Telling.told c.args.teller.now) (g.T.Telling.told c.pass_over.new.teller))
    c.pass_over.ensures.memory
