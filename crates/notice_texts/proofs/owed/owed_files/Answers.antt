use Rattle.std.proofs.Common.{◌≡◌, ℕ, ◌<◌, List, Bor, length, map, take, ap, sym, ◌∙◌, arith}
use Rattle.std.proofs.lemmas.List.{take_all}
use Rattle.notice_texts.specs.Owed.{seen, is_owed, owed}
use Rattle.notice_texts.proofs.Laws.{leaves_nothing_out, has_nothing_else, map_more, map_pushed, filter_kept, filter_left}
use Rattle.notice_texts.proofs.owed.owed_files.Goals.{then-is_owed+in_ok-push, else-is_owed}
use Rattle.notice_texts.proofs.owed.owed_files.Goals as goal

abbrev texts : List (Bor (List ℕ)) → List (List ℕ)
texts ts = map (λ (t : Bor (List ℕ)). t.now) ts

pub loop-file-preserved : goal.loop-file-preserved
loop-file-preserved c =
    let all = c.args.files.now in
    let i = c.loop-file.file-index in
    let lt : i < length all = omega arith in
    let test = is_owed (texts c.args.offered.now) (texts c.args.chosen.now) in
    let done = map seen (take i all) in
    let more = ap (owed (texts c.args.offered.now) (texts c.args.chosen.now)) (map_more seen all i _ lt) in
    elim c.if-is_owed.branch [
      | then-is_owed+in_ok-push w ↦
          rw w.owed-is (map_pushed seen c.loop-file.owed.items _ _ _ w.in_ok-push.ensures.items c.loop-file.invariant ∙ sym (filter_kept test done _ (sym c.is_owed.ensures ∙ w.if-is_owed.true)) ∙ sym more)
      | else-is_owed w ↦
          rw w.owed-is (c.loop-file.invariant ∙ sym (filter_left test done _ (sym c.is_owed.ensures ∙ w.if-is_owed.false)) ∙ sym more)
    ]

pub returns-clause-leaves_nothing_out : goal.returns-clause-leaves_nothing_out
returns-clause-leaves_nothing_out c =
    let exact : map seen c.loop-file.owed.items ≡ owed (texts c.args.offered.now) (texts c.args.chosen.now) (map seen c.args.files.now) =
    c.loop-file.invariant ∙ ap (λ fs. owed (texts c.args.offered.now) (texts c.args.chosen.now) (map seen fs)) (take_all c.loop-file.file-index c.args.files.now c.loop-file-test.false) in
    rw exact (leaves_nothing_out (texts c.args.offered.now) (texts c.args.chosen.now) (map seen c.args.files.now))

pub returns-clause-nothing_else : goal.returns-clause-nothing_else
returns-clause-nothing_else c =
    let exact : map seen c.loop-file.owed.items ≡ owed (texts c.args.offered.now) (texts c.args.chosen.now) (map seen c.args.files.now) =
    c.loop-file.invariant ∙ ap (λ fs. owed (texts c.args.offered.now) (texts c.args.chosen.now) (map seen fs)) (take_all c.loop-file.file-index c.args.files.now c.loop-file-test.false) in
    rw exact (has_nothing_else (texts c.args.offered.now) (texts c.args.chosen.now) (map seen c.args.files.now))
