use Rattle.std.proofs.Common.{◌++◌, ◌∷◌, [], ℕ, List, length, drop, sym, ap, ◌∙◌, append_assoc, arith}
use Rattle.std.proofs.lemmas.List.{take_rest, length-drop}
use Rattle.text_places.specs.declared.Span.{Span}
use Rattle.text_places.specs.Texts.{Listed, listed}
use Rattle.text_places.proofs.Listing.{listed-value}
use Rattle.text_places.proofs.texts.push_listed.Goals as goal

pub loop-rest-preserved : goal.loop-rest-preserved
loop-rest-preserved c =
    let rest = c.loop-rest.rest.now in
    let items = c.loop-rest.found.items in
    let s = c.in-Value.scalar in
    let g = c.args.grammar.now in
    let end = c.args.end in
    let kept = sym (take_rest rest s.read) in
    let later = λ (xs : List ℕ). (listed g end 0 xs).values in
    let step = listed-value g end rest s (omega arith) (sym c.in-Value.ensures.value) c.in-Value.ensures.within.some in
    record {
      within = omega (arith, ap length (sym kept), length-drop s.read rest, c.loop-rest.invariant.within);
      items =
          c.loop-rest.invariant.items
          ∙ ap (λ (l : Listed). items ++ l.values) step
          ∙ ap (λ (span : Span). items ++ span ∷ later (drop s.read rest)) (sym c.span_at.ensures)
          ∙ sym (append_assoc items (c.span_at.result ∷ []) (later (drop s.read rest)))
          ∙ ap (λ (spans : List Span). spans ++ later (drop s.read rest)) (sym c.in_ok-push-in-Value.ensures.items)
          ∙ ap (λ (xs : List ℕ). c.push.new.self.items ++ later xs) kept;
      is_open =
          c.loop-rest.invariant.is_open
          ∙ ap (λ (l : Listed). l.is_open) step
          ∙ ap (λ (xs : List ℕ). (listed g end 0 xs).is_open) kept;
    }
