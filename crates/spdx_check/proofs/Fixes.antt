-- The fix that is found is the one that the definitions give.
use Rattle.std.proofs.Common.{◌≡◌, ℕ, List, [], ◌∷◌, map, Option, Some, None, Result, Ok, Err, refl, sym, ◌∙◌, ap, subst}
use Rattle.spdx_requirement.specs.Rows.{Rows}
use Rattle.spdx_lexer.specs.declared.token.ParseMode.{ParseMode}
use Rattle.spdx_lexer.specs.Modes.{strict, lax}
use Rattle.spdx_lexer.specs.Words.{Word, Fault, Span, Item, Placed, words}
use Rattle.spdx_lexer.specs.Reading.{said}
use Rattle.spdx_parser.specs.Tree.{Tree}
use Rattle.spdx_canonical.specs.Canonical.{canonical_of}
use Rattle.spdx_canonical.specs.Fix.{Reads, IsFixOf}
use Rattle.spdx_canonical.proofs.FixRead.{refused_reads}
use Rattle.spdx_evaluation.specs.Outcome.{Outcome, outcome}
use Rattle.spdx_evaluation.proofs.Outcome.{Means, outcome_means, tree_found}
use Rattle.spdx_check.specs.Found.{when_accepted, mended, fix_of}

said_words : (read : List Placed) → map said (map {B = Item} Ok read) ≡ map {B = Result Word Fault} Ok (words read)
said_words [] = refl
said_words (p ∷ read) = ap (λ (xs : List (Result Word Fault)). Ok p.0 ∷ xs) (said_words read)

-- a tree is found where a reader accepts, and nowhere else
module _ (c : Rows) (m : ParseMode) (text : List ℕ) where
  pub reads : (t : Tree) → outcome c m text ≡ Ok t → Reads c m text
  reads t e =
      let means : Means c m text (Ok t) = subst (Means c m text) e (outcome_means c m text) in
      (words means.0, t, record { read = ap (map said) means.1 ∙ said_words means.0; meant = means.2.derived })

  pub reads_not : (fault : Fault × Span) → outcome c m text ≡ Err fault → Reads c m text → ⊥
  reads_not fault e = refused_reads c m text
      (λ read t spelt derives. let clash : Ok t ≡ Err fault = sym (tree_found c m text read t spelt derives) ∙ e in cc)

module _ (c : Rows) (text : List ℕ) where
  -- strict reading refuses the text, and lax reading accepts it
  when_is : (x : Fault × Span) (t : Tree) (fix : List ℕ) → outcome c strict text ≡ Err x → outcome c lax text ≡ Ok t → canonical_of c text ≡ Ok fix →
      (o : Outcome) → outcome c strict fix ≡ o → IsFixOf c text (when_accepted o fix)
  when_is x t fix e f g (Ok u) d = record { refused = reads_not c strict text x e; accepted = reads c lax text t f; canonical = g; mended = reads c strict fix u d }
  when_is x t fix e f g (Err y) d =
      λ other h. let clash : Ok other ≡ Ok fix = sym h.canonical ∙ g in
      let same : other ≡ fix = cc in
      reads_not c strict fix y d (subst (λ xs. Reads c strict xs) same h.mended)

  given : (o p : Outcome) (k : Result (List ℕ) (Fault × Span)) → outcome c strict text ≡ o → outcome c lax text ≡ p → canonical_of c text ≡ k → IsFixOf c text (mended c o p k)
  given (Ok t) p k e f g = λ fix h. h.refused (reads c strict text t e)
  given (Err x) (Err y) k e f g = λ fix h. reads_not c lax text y f h.accepted
  given (Err x) (Ok t) (Err z) e f g = λ fix h. let clash : Ok fix ≡ Err z = sym h.canonical ∙ g in cc
  given (Err x) (Ok t) (Ok fix) e f g = when_is x t fix e f g (outcome c strict fix) refl

  pub fix_given : IsFixOf c text (fix_of c text)
  unfolding fix_of
  fix_given = given (outcome c strict text) (outcome c lax text) (canonical_of c text) refl refl refl

  one : (a b : Option (List ℕ)) → IsFixOf c text a → IsFixOf c text b → a ≡ b
  one None None h k = refl
  one None (Some y) h k = absurd (h y k)
  one (Some x) None h k = absurd (k x h)
  one (Some x) (Some y) h k =
      let clash : Ok x ≡ Ok y = sym h.canonical ∙ k.canonical in
      let same : x ≡ y = cc in
      ap (λ xs. Some xs) same

  -- a text has one fix at most
  pub fix_only : (fix : Option (List ℕ)) → IsFixOf c text fix → fix ≡ fix_of c text
  fix_only fix h = one fix (fix_of c text) h fix_given
