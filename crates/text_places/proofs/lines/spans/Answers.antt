use Rattle.std.proofs.Common.{◌+◌, ◌-◌, ◌<◌, ◌++◌, ℕ, List, length, drop, sym, ap, ◌∙◌, subst, append_assoc, arith}
use Rattle.std.proofs.lemmas.Bool.Decides.{nat_tests}
use Rattle.std.proofs.lemmas.List.{length-drop}
use Rattle.line_engine.specs.Lines.{lines_of}
use Rattle.text_places.specs.declared.Span.{Span}
use Rattle.text_places.specs.declared.places.Place.{Place}
use Rattle.text_places.specs.Order.{AreInOrder}
use Rattle.text_places.specs.Fields.{fields_from}
use Rattle.text_places.proofs.FirstLine.{BeginsWithLine, lines_of-first}
use Rattle.text_places.proofs.Steps.{first_read, fields_from-line, first_read-order}
use Rattle.text_places.proofs.lines.spans.Goals as goal

pub loop-rest-preserved : goal.loop-rest-preserved
loop-rest-preserved c =
    let g = c.args.grammar.now in
    let place = c.loop-rest.place in
    let rest = c.loop-rest.rest.now in
    let found = c.loop-rest.found.items in
    let total = length c.args.bytes.now in
    let len = c.line_len-len.result in
    let within = c.line_len-len.ensures.within in
    let room = c.loop-rest.invariant.within in
    let some : 0 < length rest = grind (arith, nat_tests, c.loop-rest-test.ensures) in
    let lines = subst (BeginsWithLine rest) (sym c.line_len-len.ensures.value) (lines_of-first rest some) in
    let read = first_read g place total len rest lines within room in
    let left = sym c.behind-rest.ensures in
    let items = sym c.in_ok-place.ensures.items in
    let later = drop (len + 1) rest in
    let fields = λ (p : Place) (xs : List ℕ). fields_from g p (total - length xs) (lines_of xs) in
    record {
      within = omega (arith, ap length (sym left), length-drop (len + 1) rest, room);
      values =
          c.loop-rest.invariant.values
          ∙ ap (λ (spans : List Span). found ++ spans) (fields_from-line g place total len rest lines within room)
          ∙ sym (append_assoc found read.values (fields read.place later))
          ∙ ap (λ (spans : List Span). spans ++ fields read.place later) items
          ∙ ap (λ (p : Place). c.read_line.new.found.items ++ fields p later) (sym c.in_ok-place.ensures.place)
          ∙ ap (λ (xs : List ℕ). c.read_line.new.found.items ++ fields c.in_ok-place.place xs) left;
      order =
          subst (λ (xs : List ℕ). AreInOrder 0 c.read_line.new.found.items (total - length xs)) left
          (subst (λ (spans : List Span). AreInOrder 0 spans (total - length later)) items (first_read-order g place total len rest lines within room found c.loop-rest.invariant.order));
    }
