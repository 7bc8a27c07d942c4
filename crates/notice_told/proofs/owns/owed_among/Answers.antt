use Rattle.std.proofs.Common.{ℕ, ◌<◌, ◌∙◌, List, Bor, length, map, sym, arith}
use Rattle.notice_told.specs.declared.packages.OwnFile.{OwnFile}
use Rattle.notice_texts.specs.Owed.{is_owed, seen}
use Rattle.notice_told.proofs.Filters.{kept_more, left_more}
use Rattle.notice_told.proofs.owns.owed_among.Goals.{then-is_owed+in_ok-push, else-is_owed}
use Rattle.notice_told.proofs.owns.owed_among.Goals as goal

abbrev texts : List (Bor (List ℕ)) → List (List ℕ)
texts ts = map (λ (t : Bor (List ℕ)). t.now) ts

pub loop-one-preserved : goal.loop-one-preserved
loop-one-preserved c =
    let i = c.loop-one.one-index in
    let lt : i < length c.args.files.now = omega arith in
    let test = λ (f : OwnFile). is_owed (texts c.args.offered.now) (texts c.args.chosen.now) (seen f.file) in
    elim c.if-is_owed.branch [
      | then-is_owed+in_ok-push w ↦ kept_more test c.args.files.now i _ c.loop-one.owed.items _ lt (sym c.is_owed.ensures ∙ w.if-is_owed.true) c.loop-one.invariant (rw w.owed-is w.in_ok-push.ensures.items)
      | else-is_owed w ↦ left_more test c.args.files.now i _ c.loop-one.owed.items _ lt (sym c.is_owed.ensures ∙ w.if-is_owed.false) c.loop-one.invariant (rw w.owed-is)
    ]
