use Rattle.std.proofs.Common.{arith, ℕ, List, ◌<◌, Bor, length, map, take, sym, ap, subst, ◌∙◌}
use Rattle.std.specs.Prelude.{not}
use Rattle.notice_texts.specs.Lacking as spec
use Rattle.notice_texts.specs.Sets.{Has}
use Rattle.notice_texts.proofs.LackLaws.{text_of, texts_more, texts_pushed, filter_kept, filter_left}
use Rattle.notice_texts.proofs.lacking.missing.Goals.{then-not-is_in+in_ok-push, else-not-is_in}
use Rattle.notice_texts.proofs.lacking.missing.Goals as goal

pub loop-name-preserved : goal.loop-name-preserved
loop-name-preserved c =
    let all = c.args.names.now in
    let i = c.loop-name.name-index in
    let lt : i < length all = omega arith in
    let done = map text_of (take i all) in
    let files = map text_of c.args.files.now in
    let lacks = λ (n : List ℕ). not (spec.has_text files n) in
    let more = ap (spec.without_text files) (texts_more all i _ lt) in
    let held = map text_of c.in_ok-held.held.items in
    let has : Has c.in_ok-held-2.held held = subst (λ (xs : List (Bor (List ℕ))). Has c.in_ok-held-2.held (map text_of xs)) c.deref.ensures.value c.in_ok-held-2.ensures in
    let told = c.is_in.ensures held has ∙ c.in_ok-held.ensures _ in
    elim c.if-not-is_in.branch [
      | then-not-is_in+in_ok-push w ↦
          let lacking = ap not (sym told ∙ w.if-not-is_in.true) in
          rw w.missing-is (texts_pushed c.loop-name.missing.items _ _ _ w.in_ok-push.ensures.items c.loop-name.invariant ∙ sym (filter_kept lacks done _ lacking) ∙ sym more)
      | else-not-is_in w ↦
          let there = ap not (sym told ∙ w.if-not-is_in.false) in
          rw w.missing-is (c.loop-name.invariant ∙ sym (filter_left lacks done _ there) ∙ sym more)
    ]
