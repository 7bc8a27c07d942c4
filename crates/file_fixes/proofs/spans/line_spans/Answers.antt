use Rattle.std.proofs.Common.{◌≡◌, ℕ, ◌+◌, ◌<◌, ◌++◌, List, length, take, drop, sym, ap, ◌∙◌, subst, append_assoc, append-nil, arith}
use Rattle.std.proofs.lemmas.Bool.Decides.{nat_tests}
use Rattle.std.proofs.lemmas.List.{length-drop, length-take-le}
use Rattle.line_engine.specs.Lines.{lines_of}
use Rattle.file_fixes.specs.declared.Span.{Span}
use Rattle.file_fixes.specs.Mending.{AreInOrder}
use Rattle.file_fixes.specs.Spans.{line_span, spans_from, line_spans}
use Rattle.file_fixes.proofs.Lines.{lines_in_order, no_lines}
use Rattle.file_fixes.proofs.spans.line_spans.Goals as goal

pub loop-rest-preserved : goal.loop-rest-preserved
loop-rest-preserved c =
    let offset : ℕ = c.loop-rest.offset in
    let rest = c.loop-rest.rest.now in
    let found = c.loop-rest.spans.items in
    let len : ℕ = c.line_len-len.result in
    let line = take len rest in
    let some : 0 < length rest = grind (arith, nat_tests, c.loop-rest-test.ensures) in
    let fits : length line ≡ len = length-take-le len rest c.line_len-len.ensures.within in
    let later : List ℕ → List Span = λ xs. spans_from (offset + (len + 1)) (lines_of xs) in
    record {
      done =
          c.loop-rest.invariant.done
          ∙ ap (λ (ls : List (List ℕ)). found ++ spans_from offset ls) (c.line_len-len.ensures.lines some)
          ∙ ap (λ (n : ℕ). found ++ (line_span offset line ++ spans_from (offset + (n + 1)) (lines_of (drop (len + 1) rest)))) fits
          ∙ sym (append_assoc found (line_span offset line) (later (drop (len + 1) rest)))
          ∙ ap (λ (ss : List Span). ss ++ later (drop (len + 1) rest)) (sym c.in_ok-put_span.ensures)
          ∙ ap (λ (xs : List ℕ). c.put_span.new.spans.items ++ later xs) (sym c.behind-rest.ensures);
      within = λ h. omega (arith, length-drop (len + 1) rest, ap length c.behind-rest.ensures, c.loop-rest.invariant.within some);
    }

pub returns-clause-in_order : goal.returns-clause-in_order
returns-clause-in_order c =
    let bytes = c.args.bytes.now in
    let found = c.loop-rest.spans.items in
    let rest = c.loop-rest.rest.now in
    let none : length rest ≡ 0 = grind (arith, nat_tests, c.loop-rest-test.ensures, c.loop-rest-test.false, c.is_empty.ensures) in
    let all : line_spans bytes ≡ found =
    c.loop-rest.invariant.done ∙ ap (λ (ls : List (List ℕ)). found ++ spans_from c.loop-rest.offset ls) (no_lines rest none) ∙ append-nil found in
    subst (λ (ss : List Span). AreInOrder 0 ss (length bytes)) all (lines_in_order bytes)
