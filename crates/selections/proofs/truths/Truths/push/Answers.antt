use Rattle.std.proofs.Common.{arith, ◌≡◌, ◌∙◌, sym, ap, subst, length, [], ◌∷◌, ℕ, List, Bool, ◌+◌, ◌*◌, ◌<◌}
use Rattle.selections.specs.Truths.{Stack, bits, words_bits}
use Rattle.selections.specs.declared.truths.Truths.TheInside.{Inside}
use Rattle.selections.proofs.Words.{length-bits, length-words_bits, push_bit, word_is, words_push}
use Rattle.selections.proofs.truths.Truths.push.Goals as goal
use Rattle.selections.proofs.truths.Truths.push.Goals.{then-self-eq64, else-self-eq64}

pub push_reserved-requires : goal.push_reserved-requires
push_reserved-requires c =
    let words = words_bits c.self.inside.full.items [] in
    let a = length-bits c.self.inside.used c.self.inside.top words in
    let b = length-words_bits c.self.inside.full.items [] in
    let fits : length (bits c.self.inside.used c.self.inside.top words) < 64 * c.self.inside.full.capacity + 64 =
    subst (λ (s : Stack). length s.items < s.room) (sym c.self.view_is) c.requires in
    (omega arith, omega (arith, a, b, fits))

pub returns-clause-items : goal.returns-clause-items
returns-clause-items c =
    let lies : Inside → List Bool = λ x. bits x.used x.top (words_bits x.full.items []) in
    let same : lies c.if-self-eq64.self-inside ≡ c.args.self.now.items = elim c.if-self-eq64.branch [
      | then-self-eq64 w ↦ ap lies w.self-inside-is ∙ ap (λ (ws : List ℕ). words_bits ws []) w.push_reserved.ensures.items
          ∙ words_push c.self.inside.full.items c.self.inside.top []
          ∙ sym (word_is c.self.inside.used c.self.inside.top (words_bits c.self.inside.full.items []) w.if-self-eq64.true)
          ∙ ap (λ (s : Stack). s.items) c.self.view_is
      | else-self-eq64 w ↦ ap lies w.self-inside-is ∙ ap (λ (s : Stack). s.items) c.self.view_is
    ] in
    push_bit c.if-self-eq64.self-inside.used c.if-self-eq64.self-inside.top c.args.truth (words_bits c.if-self-eq64.self-inside.full.items [])
    ∙ ap (λ (z : List Bool). c.args.truth ∷ z) same
