use Rattle.std.proofs.Common.{ℕ, List, refl, subst}
use Rattle.std.specs.Option.{option_copied}
use Rattle.line_engine.proofs.Known.{OnErr-always}
use Rattle.source_trees.specs.declared.walk.Seen.TheVariants as seen
use Rattle.check_files.specs.Begun.{IsFileBegun}
use Rattle.check_files.specs.Noted.{notes_of}
use Rattle.check_files.specs.Tally.{tally_of}
use Rattle.check_files.specs.Told.{Does}
use Rattle.check_files.proofs.Begun.{on_err}
use Rattle.check_program.proofs.TreeBegun.{seen_begun, seen_idle}
use Rattle.check_program.proofs.steps.check_seen.Goals as goal

pub returns-in-File-clause-begun : goal.returns-in-File-clause-begun
returns-in-File-clause-begun g c =
    let s = g.S.Shelf.told c.args.shelf.now in
    let check = c.args.check.now in
    let taken = c.args.below.taken in
    let folder = option_copied c.args.below.folder in
    let old = tally_of c.args.sums.now in
    let noted = notes_of c.args.noted.now in
    let out = g.O.Sink.told c.args.output.now in
    let out' = g.O.Sink.told c.check_file.new.output in
    let h = g.T.Telling.told c.args.teller.now in
    let k = g.T.Telling.told c.check_file.new.teller in
    on_err c.check_file.result _ _
    (λ d.
    seen_begun s check taken folder (seen.File c.in-File.path) c.args.seen old noted out out' h k c.in-File.is
    (subst (λ (path : List ℕ). Does out out' h k (λ text told. IsFileBegun s check taken folder path old noted text told)) c.as_str.ensures.value d))
    c.check_file.ensures.begun

pub returns-in_err-leave_out-in-LeftOut-clause-begun : goal.returns-in_err-leave_out-in-LeftOut-clause-begun
returns-in_err-leave_out-in-LeftOut-clause-begun g c =
    OnErr-always c.from_residual.result _
    (seen_idle (g.S.Shelf.told c.args.shelf.now) c.args.check.now c.args.below.taken (option_copied c.args.below.folder) (seen.LeftOut c.in-LeftOut.path) c.args.seen (tally_of c.args.sums.now)
    (notes_of c.args.noted.now) (g.O.Sink.told c.args.output.now) (g.T.Telling.told c.args.teller.now) (g.T.Telling.told c.args.teller.now) c.in-LeftOut.is (refl, refl) refl)

pub returns-in_err-note_left-in-LeftBehind-clause-begun : goal.returns-in_err-note_left-in-LeftBehind-clause-begun
returns-in_err-note_left-in-LeftBehind-clause-begun g c =
    OnErr-always c.from_residual-in_err-note_left-in-LeftBehind.result _
    (seen_idle (g.S.Shelf.told c.args.shelf.now) c.args.check.now c.args.below.taken (option_copied c.args.below.folder) (seen.LeftBehind c.in-LeftBehind.path) c.args.seen (tally_of c.args.sums.now)
    (notes_of c.args.noted.now) (g.O.Sink.told c.args.output.now) (g.T.Telling.told c.args.teller.now) (g.T.Telling.told c.args.teller.now) c.in-LeftBehind.is (refl, refl) refl)

pub returns-in-Folder-clause-begun : goal.returns-in-Folder-clause-begun
returns-in-Folder-clause-begun g c =
    on_err c.pass_unnamed.result _ _
    (seen_idle (g.S.Shelf.told c.args.shelf.now) c.args.check.now c.args.below.taken (option_copied c.args.below.folder) (seen.Folder c.in-Folder.path c.in-Folder.unnamed) c.args.seen (tally_of c.args.sums.now)
    (notes_of c.args.noted.now) (g.O.Sink.told c.args.output.now) (g.T.Telling.told c.args.teller.now) (g.T.Telling.told c.pass_unnamed.new.teller) c.in-Folder.is (refl, refl))
    c.pass_unnamed.ensures.memory

pub returns-in-Unread-clause-begun : goal.returns-in-Unread-clause-begun
returns-in-Unread-clause-begun g c =
    on_err c.pass_over.result _ _
    (seen_idle (g.S.Shelf.told c.args.shelf.now) c.args.check.now c.args.below.taken (option_copied c.args.below.folder) (seen.Unread c.in-Unread.path c.in-Unread.error) c.args.seen (tally_of c.args.sums.now)
    (notes_of c.args.noted.now) (g.O.Sink.told c.args.output.now) (g.T.Telling.told c.args.teller.now) (g.T.Telling.told c.pass_over.new.teller) c.in-Unread.is (refl, refl))
    c.pass_over.ensures.memory
