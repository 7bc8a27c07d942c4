use Rattle.std.proofs.Common.{ℕ, List, subst, sym}
use Rattle.check_files.specs.Tally.{tally_of}
use Rattle.check_files.specs.Told.{Writes}
use Rattle.check_files.proofs.Steps.{on_ok}
use Rattle.shelves.specs.AtPath.{IsContent}
use Rattle.check_program.specs.Paths.{IsPartChecked}
use Rattle.check_program.specs.Unread.{PassesUnread}
use Rattle.check_program.proofs.Wholes.{read, unread}
use Rattle.check_files.specs.Begun.{IsBeginning}
use Rattle.check_files.proofs.Begun.{on_err}
use Rattle.check_program.specs.Begun.{IsPartText}
use Rattle.check_program.proofs.Begun.{part_begun, part_unread}
use Rattle.check_program.proofs.path.check_whole.Goals as goal

pub returns-in-Ok-clause-ok : goal.returns-in-Ok-clause-ok
returns-in-Ok-clause-ok g c =
    let s = g.S.Shelf.told c.args.shelf.now in
    let out = g.O.Sink.told c.args.output.now in
    let out' = g.O.Sink.told c.check_part.new.output in
    let old = tally_of c.args.sums.now in
    let new = tally_of c.check_part.new.sums in
    on_ok c.check_part.result _ _
    (λ w.
    read s c.args.check.now c.args.form c.args.path.now c.deref.result.now out out' (g.T.Telling.told c.args.teller.now) old new
    (subst (λ (bytes : List ℕ). IsContent s c.args.path.now bytes) (sym c.deref.ensures.value) c.in-Ok.ensures.ok)
    (subst (λ (name : List ℕ). Writes out out' (λ text. IsPartChecked c.args.check.now c.args.form name c.deref.result.now old text new)) c.told_path-name.ensures.value w))
    c.check_part.ensures.ok

pub returns-in-Err-clause-ok : goal.returns-in-Err-clause-ok
returns-in-Err-clause-ok g c =
    let k = g.T.Telling.told c.args.teller.now in
    let l = g.T.Telling.told c.pass_unread.new.teller in
    let old = tally_of c.args.sums.now in
    let new = tally_of c.pass_unread.new.sums in
    on_ok c.pass_unread.result _ _
    (λ p.
    unread (g.S.Shelf.told c.args.shelf.now) c.args.check.now c.args.form c.args.path.now c.in-Err.error (g.O.Sink.told c.args.output.now) k l old new c.in-Err.ensures.err
    (subst (λ (name : List ℕ). PassesUnread name c.in-Err.error k l old new) c.told_path-name.ensures.value p))
    c.pass_unread.ensures.ok

pub returns-in-Ok-clause-begun : goal.returns-in-Ok-clause-begun
returns-in-Ok-clause-begun g c =
    let s = g.S.Shelf.told c.args.shelf.now in
    let out = g.O.Sink.told c.args.output.now in
    let out' = g.O.Sink.told c.check_part.new.output in
    let old = tally_of c.args.sums.now in
    on_err c.check_part.result _ _
    (λ w.
    part_begun s c.args.check.now c.args.form c.args.path.now old c.deref.result.now out out' (g.T.Telling.told c.args.teller.now)
    (subst (λ (bytes : List ℕ). IsContent s c.args.path.now bytes) (sym c.deref.ensures.value) c.in-Ok.ensures.ok)
    (subst (λ (name : List ℕ). Writes out out' (IsBeginning (IsPartText c.args.check.now c.args.form name c.deref.result.now old))) c.told_path-name.ensures.value w))
    c.check_part.ensures.begun

pub returns-in-Err-clause-begun : goal.returns-in-Err-clause-begun
returns-in-Err-clause-begun g c =
    on_err c.pass_unread.result _ _
    (part_unread (g.S.Shelf.told c.args.shelf.now) c.args.check.now c.args.form c.args.path.now (tally_of c.args.sums.now) (g.O.Sink.told c.args.output.now) (g.T.Telling.told c.args.teller.now)
    (g.T.Telling.told c.pass_unread.new.teller))
    c.pass_unread.ensures.memory
