use Rattle.std.proofs.Common.{arith, ℕ, List, ◌<◌, length, map, take, sym, ap, ◌∙◌}
use Rattle.std.specs.Prelude.{not}
use Rattle.notice_texts.specs.Lacking as spec
use Rattle.notice_texts.proofs.LackLaws.{text_of, texts_more, texts_pushed, filter_kept, filter_left}
use Rattle.notice_texts.proofs.lacking.unused.Goals.{then-not-is_needed+in_ok-push, else-not-is_needed}
use Rattle.notice_texts.proofs.lacking.unused.Goals as goal

pub loop-file-preserved : goal.loop-file-preserved
loop-file-preserved c =
    let all = c.args.files.now in
    let i = c.loop-file.file-index in
    let lt : i < length all = omega arith in
    let done = map text_of (take i all) in
    let used = map text_of c.args.used.now in
    let idle = λ (f : List ℕ). not (spec.is_needed used f) in
    let more = ap (spec.unused used) (texts_more all i _ lt) in
    let told = c.is_needed.ensures used c.in_ok-wanted.ensures in
    elim c.if-not-is_needed.branch [
      | then-not-is_needed+in_ok-push w ↦
          let alone = ap not (sym told ∙ w.if-not-is_needed.true) in
          rw w.unused-is (texts_pushed c.loop-file.unused.items _ _ _ w.in_ok-push.ensures.items c.loop-file.invariant ∙ sym (filter_kept idle done _ alone) ∙ sym more)
      | else-not-is_needed w ↦
          let needed = ap not (sym told ∙ w.if-not-is_needed.false) in
          rw w.unused-is (c.loop-file.invariant ∙ sym (filter_left idle done _ needed) ∙ sym more)
    ]
