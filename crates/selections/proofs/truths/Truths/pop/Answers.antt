use Rattle.std.proofs.Common.{arith, ◌≡◌, ◌∙◌, sym, ap, [], ◌∷◌, ◌++◌, ◌-◌, ◌/◌, ◌%◌, ◌==◌, ℕ, List, Bool, ◌<◌}
use Rattle.selections.specs.Truths.{Stack, bits, words_bits}
use Rattle.selections.specs.declared.truths.Truths.TheInside.{Inside}
use Rattle.selections.proofs.Words.{pop_bit, pop_word}
use Rattle.selections.proofs.truths.Truths.pop.Goals as goal
use Rattle.selections.proofs.truths.Truths.pop.Goals.{then-self-eq0+in_ok-self-inside, else-self-eq0}

pub returns-clause-some : goal.returns-clause-some
returns-clause-some c = λ truth h.
    let x = c.if-self-eq0.self-inside in
    let bit : (x.top % 2 == 1) ≡ truth = cc in
    let after : List Bool = bits (x.used - 1) (x.top / 2) (words_bits x.full.items []) in
    let same : c.args.self.now.items ≡ (x.top % 2 == 1) ∷ after = elim c.if-self-eq0.branch [
      | then-self-eq0+in_ok-self-inside w ↦
          let full : x.full.items ≡ w.pop.new.self.items = ap (λ (y : Inside). y.full.items) w.self-inside-is in
          let top : x.top ≡ w.in_ok-self-inside.field-0 = ap (λ (y : Inside). y.top) w.self-inside-is in
          let used : x.used ≡ 64 = ap (λ (y : Inside). y.used) w.self-inside-is in
          let items : c.self.inside.full.items ≡ w.pop.new.self.items ++ w.in_ok-self-inside.field-0 ∷ [] = w.in_ok-self-inside.ensures.items in
          let popped : c.self.inside.full.items ≡ x.full.items ++ x.top ∷ [] = rw (full, top) items in
          sym (ap (λ (s : Stack). s.items) c.self.view_is)
          ∙ ap (λ (n : ℕ). bits n c.self.inside.top (words_bits c.self.inside.full.items [])) w.if-self-eq0.true
          ∙ pop_word c.self.inside.full.items x.full.items x.top x.used used popped
      | else-self-eq0 w ↦
          let used : 0 < c.self.inside.used = omega arith in
          sym (ap (λ (s : Stack). s.items) c.self.view_is)
          ∙ pop_bit c.self.inside.used c.self.inside.top (words_bits c.self.inside.full.items []) used
          ∙ ap (λ (y : Inside). (y.top % 2 == 1) ∷ bits (y.used - 1) (y.top / 2) (words_bits y.full.items [])) (sym w.self-inside-is)
    ] in
    same ∙ ap (λ (z : Bool). z ∷ after) bit
