use Rattle.std.proofs.Common.{◌≡◌, ℕ, ◌+◌, ◌<◌, ◌++◌, List, [], length, drop, drop-drop, sym, ap, ◌∙◌, append_assoc, subst, arith}
use Rattle.std.proofs.lemmas.List.{append-nil, drop_all, length-drop, take_rest}
use Rattle.text_places.specs.declared.Span.{Span}
use Rattle.text_places.specs.Order.{AreInOrder}
use Rattle.json_places.specs.Literals.{literals_from, piece_len, value_at}
use Rattle.json_places.proofs.Scan.{literals-in_order, literals_from-step}
use Rattle.json_places.proofs.literals.literals.Goals as goal

pub loop-at-preserved : goal.loop-at-preserved
loop-at-preserved c =
    let l = c.loop-at in
    let bytes = c.args.bytes.now in
    let rest = drop l.at bytes in
    let found = l.found.items in
    let is = c.piece_len.ensures.value ∙ ap piece_len (take_rest bytes l.at) in
    let n = c.piece_len.result in
    let some : 0 < length rest = omega (arith, length-drop l.at bytes, c.loop-at-test.true) in
    let read : 0 < piece_len rest = omega (arith, is, c.piece_len.ensures.some) in
    let step = literals_from-step l.at rest some read in
    let later = literals_from (l.at + n) 0 (drop (l.at + n) bytes) in
    let behind : literals_from (l.at + piece_len rest) 0 (drop (piece_len rest) rest) ≡ later =
    ap (λ (k : ℕ). literals_from (l.at + k) 0 (drop k rest)) (sym is) ∙ ap (literals_from (l.at + n) 0) (drop-drop n l.at bytes) in
    record {
      within = omega (arith, c.piece_len.ensures.within, length-drop l.at bytes, l.invariant.within);
      found =
          l.invariant.found ∙ ap (λ (spans : List Span). found ++ spans) (step ∙ ap (λ (spans : List Span). value_at l.at rest ++ spans) behind)
          ∙ sym (append_assoc found (value_at l.at rest) later)
          ∙ ap (λ (spans : List Span). (found ++ spans) ++ later) (sym c.value_at.ensures)
          ∙ ap (λ (spans : List Span). spans ++ later) (sym c.in_ok-push_some.ensures);
    }

pub returns-clause-in_order : goal.returns-clause-in_order
returns-clause-in_order c =
    let l = c.loop-at in
    let bytes = c.args.bytes.now in
    let none : literals_from l.at 0 (drop l.at bytes) ≡ [] = ap (literals_from l.at 0) (drop_all l.at bytes c.loop-at-test.false) in
    let is = l.invariant.found ∙ ap (λ (spans : List Span). l.found.items ++ spans) none ∙ append-nil l.found.items in
    subst (λ (spans : List Span). AreInOrder 0 spans (length bytes)) is (literals-in_order bytes)
