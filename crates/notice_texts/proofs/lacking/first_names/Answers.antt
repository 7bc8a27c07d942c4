use Rattle.std.proofs.Common.{arith, ◌<◌, length, map, take, sym, ap, subst, ◌∙◌}
use Rattle.notice_texts.specs.Lacking as spec
use Rattle.notice_texts.specs.Sets.{Has}
use Rattle.notice_texts.proofs.LackLaws.{text_of, texts_more, texts_pushed, has-insert, has_met, first_new, first_met}
use Rattle.notice_texts.proofs.lacking.first_names.Goals.{then-not-is_in+in_ok-insert+in_ok-push, else-not-is_in}
use Rattle.notice_texts.proofs.lacking.first_names.Goals as goal

pub loop-name-preserved : goal.loop-name-preserved
loop-name-preserved c =
    let all = c.args.used.now in
    let i = c.loop-name.name-index in
    let lt : i < length all = omega arith in
    let done = map text_of (take i all) in
    let more = texts_more all i _ lt in
    let told = sym (c.is_in.ensures done c.loop-name.invariant.0) in
    elim c.if-not-is_in.branch [
      | then-not-is_in+in_ok-insert+in_ok-push w ↦
          let new = told ∙ w.if-not-is_in.true in
          let has = has-insert c.loop-name.met w.insert.new.self done _ c.loop-name.invariant.0 w.in_ok-insert.ensures.updates in (
            rw w.met-is (subst (Has w.insert.new.self) (sym more) has),
            rw w.names-is (texts_pushed c.loop-name.names.items _ _ _ w.in_ok-push.ensures.items c.loop-name.invariant.1 ∙ sym (first_new done _ new) ∙ ap spec.first_names (sym more)),
          )
      | else-not-is_in w ↦
          let met = told ∙ w.if-not-is_in.false in (
            rw w.met-is (subst (Has c.loop-name.met) (sym more) (has_met c.loop-name.met done _ c.loop-name.invariant.0 met)),
            rw w.names-is (c.loop-name.invariant.1 ∙ sym (first_met done _ met) ∙ ap spec.first_names (sym more)),
          )
    ]
