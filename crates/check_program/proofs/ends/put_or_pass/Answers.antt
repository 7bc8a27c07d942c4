use Rattle.std.proofs.Common.{◌≡◌, ◌∙◌, true, false, List, String, map, string_bytes, subst, sym}
use Rattle.std.specs.declared.alloc.Global.{Global}
use Rattle.check_files.specs.Tally.{tally_of, with_texts}
use Rattle.check_files.specs.Told.{Writes}
use Rattle.check_files.specs.declared.trouble.CheckTrouble.{CheckTrouble}
use Rattle.check_files.proofs.Steps.{on_ok}
use Rattle.check_sources.specs.Owed.{owed_by}
use Rattle.check_program.specs.Ends.{AreWholes, are_none}
use Rattle.check_program.proofs.Ending.{owed_passed, owed_put}
use Rattle.check_files.specs.Begun.{IsBeginning}
use Rattle.check_files.proofs.Begun.{on_err}
use Rattle.check_program.specs.TreeBegun.{IsWholesText}
use Rattle.check_program.proofs.TreeBegun.{owed_told, owed_written}
use Rattle.check_program.proofs.ends.put_or_pass.Goals as goal

pub returns-then-are_none-clause-ok : goal.returns-then-are_none-clause-ok
returns-then-are_none-clause-ok g c =
    let out = g.O.Sink.told c.args.output.now in
    let out' = g.O.Sink.told c.put_owed.new.output in
    let used = map string_bytes c.args.used.now in
    let old = tally_of c.args.sums.now in
    let new = tally_of c.put_owed.new.sums in
    on_ok c.put_owed.result _ _
    (λ w.
    owed_put c.args.check.now c.args.folder.now used (map string_bytes c.args.texts.files.items) c.args.texts.troubles.items out out' (g.T.Telling.told c.args.teller.now) old new
    (subst (λ (ts : List CheckTrouble). are_none ts ≡ true) c.deref.ensures.value (sym c.are_none.ensures ∙ c.if-are_none.true))
    (subst (λ (files : List (String Global)). Writes out out' (λ text. AreWholes c.args.check.now (owed_by c.args.folder.now used (map string_bytes files)) with_texts old text new))
    c.deref-then-are_none.ensures.value w))
    c.put_owed.ensures.ok

pub returns-clause-ok : goal.returns-clause-ok
returns-clause-ok g c =
    on_ok c.pass_all.result _ _
    (owed_passed c.args.check.now c.args.folder.now (map string_bytes c.args.used.now) (map string_bytes c.args.texts.files.items) c.args.texts.troubles.items (g.O.Sink.told c.args.output.now)
    (g.T.Telling.told c.args.teller.now) (g.T.Telling.told c.pass_all.new.teller) (tally_of c.args.sums.now) (tally_of c.pass_all.new.sums)
    (subst (λ (ts : List CheckTrouble). are_none ts ≡ false) c.deref.ensures.value (sym c.are_none.ensures ∙ c.if-are_none.false)))
    c.pass_all.ensures.ok

pub returns-then-are_none-clause-begun : goal.returns-then-are_none-clause-begun
returns-then-are_none-clause-begun g c =
    let out = g.O.Sink.told c.args.output.now in
    let out' = g.O.Sink.told c.put_owed.new.output in
    let used = map string_bytes c.args.used.now in
    let old = tally_of c.args.sums.now in
    on_err c.put_owed.result _ _
    (λ w.
    owed_written c.args.check.now c.args.folder.now used (map string_bytes c.args.texts.files.items) c.args.texts.troubles.items out out' (g.T.Telling.told c.args.teller.now) old
    (subst (λ (ts : List CheckTrouble). are_none ts ≡ true) c.deref.ensures.value (sym c.are_none.ensures ∙ c.if-are_none.true))
    (subst (λ (files : List (String Global)). Writes out out' (IsBeginning (IsWholesText c.args.check.now (owed_by c.args.folder.now used (map string_bytes files)) old)))
    c.deref-then-are_none.ensures.value w))
    c.put_owed.ensures.begun

pub returns-clause-begun : goal.returns-clause-begun
returns-clause-begun g c =
    on_err c.pass_all.result _ _
    (owed_told c.args.check.now c.args.folder.now (map string_bytes c.args.used.now) (map string_bytes c.args.texts.files.items) c.args.texts.troubles.items (g.O.Sink.told c.args.output.now)
    (g.T.Telling.told c.args.teller.now) (g.T.Telling.told c.pass_all.new.teller) (tally_of c.args.sums.now)
    (subst (λ (ts : List CheckTrouble). are_none ts ≡ false) c.deref.ensures.value (sym c.are_none.ensures ∙ c.if-are_none.false)))
    c.pass_all.ensures.begun
