use Rattle.std.proofs.Common.{sym, ap, ◌∙◌, arith}
use Rattle.std.proofs.lemmas.List.{take_rest}
use Rattle.text_places.proofs.InOrder.{AreInOrder-before, AreInOrder-push}
use Rattle.toml_places.specs.Literals.{piece_len, is_value}
use Rattle.toml_places.proofs.Scan.{literals_from-value, literals_from-other}
use Rattle.toml_places.proofs.literals.literals.Goals as goal
use Rattle.toml_places.proofs.literals.literals.Goals.{then-is_value+in_ok-push, else-is_value}

pub loop-at-preserved : goal.loop-at-preserved
loop-at-preserved c =
    let l = c.loop-at in
    let bytes = c.args.bytes.now in
    let rest = take_rest bytes l.at in
    let len = c.piece_len-len.ensures.value ∙ ap piece_len rest in
    let is = c.is_value.ensures ∙ ap (is_value l.line) rest in
    elim c.if-is_value.branch [
      | then-is_value+in_ok-push w ↦ record {
        within = omega arith;
        depth = omega arith;
        in_order = rw (w.found-is, w.in_ok-push.ensures.items) (AreInOrder-push 0 _ l.at _ l.invariant.in_order (omega arith) (omega arith));
        values = rw (w.found-is, w.in_ok-push.ensures.items)
            (literals_from-value l.line _ l.at c.piece_len-len.result bytes l.found.items c.loop-at-test.true len c.piece_len-len.ensures.some
            (sym w.if-is_value.true ∙ is) c.line_behind-line.ensures.value l.invariant.values);
      }
      | else-is_value w ↦ record {
        within = omega arith;
        depth = omega arith;
        in_order = rw w.found-is (AreInOrder-before _ _ _ _ l.invariant.in_order (omega arith));
        values = rw w.found-is
            (literals_from-other l.line _ l.at c.piece_len-len.result bytes l.found.items c.loop-at-test.true len c.piece_len-len.ensures.some
            (sym w.if-is_value.false ∙ is) c.line_behind-line.ensures.value l.invariant.values);
      }
    ]
