-- The words of a normal text.
use Rattle.std.proofs.Common.{◌≡◌, ℕ, Bool, true, false, List, [], ◌∷◌, ◌++◌, refl, ◌∙◌, ap}
use Rattle.std.specs.Prelude.{codes}
use Rattle.spdx_requirement.specs.Rows.{Rows}
use Rattle.spdx_lexer.specs.Words as Words
use Rattle.spdx_lexer.specs.Words.{Word, OpenParen, CloseParen}
use Rattle.spdx_parser.specs.declared.node.Operator.{Operator}
use Rattle.spdx_parser.specs.declared.node.Operator.TheVariants.{And, Or}
use Rattle.spdx_parser.specs.Tree.{Tree, Leaf, Join}
use Rattle.spdx_canonical.specs.Canonical.{word_text}
use Rattle.spdx_canonical.proofs.Neighbours.{AreRead, IsRead}
use Rattle.spdx_canonical.proofs.Plain.{words_text, text-append}
use Rattle.spdx_canonical.specs.Normal.{root, left_in_parens, right_in_parens, in_parens_if, operator_text, normal_text}
use Rattle.spdx_canonical.specs.NormalLaw.{EachLeaf}
use Rattle.spdx_canonical.proofs.Leaves.{requirement_words, IsGood, read_append}

abbrev pub group_if : Bool → List Word → List Word
group_if true ws = OpenParen ∷ (ws ++ CloseParen ∷ [])
group_if false ws = ws

abbrev pub operator_word : Operator → Word
operator_word And = Words.And
operator_word Or = Words.Or

abbrev pub normal_words : Tree → List Word
normal_words (Leaf r) = requirement_words r
normal_words (Join o l r) = group_if (left_in_parens o (root l)) (normal_words l) ++ operator_word o ∷ group_if (right_in_parens o (root r)) (normal_words r)

module _ (c : Rows) where
  group_read : (b : Bool) (ws : List Word) → AreRead c ws → AreRead c (group_if b ws)
  group_read true ws h = (tt, read_append c ws (CloseParen ∷ []) h (tt, tt))
  group_read false ws h = h

  operator_read : (o : Operator) → IsRead c (operator_word o)
  operator_read And = tt
  operator_read Or = tt

  -- they are read as each requirement's are
  pub normal_read : (t : Tree) → EachLeaf (IsGood c) t → AreRead c (normal_words t)
  normal_read (Leaf r) h = h.read
  normal_read (Join o l r) h =
      let left = group_if (left_in_parens o (root l)) (normal_words l) in
      let right = group_if (right_in_parens o (root r)) (normal_words r) in
      read_append c left (operator_word o ∷ right) (group_read (left_in_parens o (root l)) (normal_words l) (normal_read l h.0)) (operator_read o, group_read (right_in_parens o (root r)) (normal_words r) (normal_read r h.1))

  group_text : (b : Bool) (ws : List Word) (text : List ℕ) → words_text ws ≡ text → words_text (group_if b ws) ≡ in_parens_if b text
  group_text true ws text e = ap (λ (t : List ℕ). codes "(" ++ t) (text-append ws (CloseParen ∷ []) ∙ ap (λ (t : List ℕ). t ++ codes ")") e)
  group_text false ws text e = e

  operator_said : (o : Operator) → word_text (operator_word o) ≡ operator_text o
  operator_said And = refl
  operator_said Or = refl

  -- and their text is the normal text
  pub normal_words_text : (t : Tree) → EachLeaf (IsGood c) t → words_text (normal_words t) ≡ normal_text t
  normal_words_text (Leaf r) h = h.text
  normal_words_text (Join o l r) h =
      let left = group_if (left_in_parens o (root l)) (normal_words l) in
      let right = group_if (right_in_parens o (root r)) (normal_words r) in
      text-append left (operator_word o ∷ right)
      ∙ ap (λ (x : List ℕ). x ++ (word_text (operator_word o) ++ words_text right)) (group_text (left_in_parens o (root l)) (normal_words l) (normal_text l) (normal_words_text l h.0))
      ∙ ap (λ (x : List ℕ). in_parens_if (left_in_parens o (root l)) (normal_text l) ++ (x ++ words_text right)) (operator_said o)
      ∙ ap (λ (x : List ℕ). in_parens_if (left_in_parens o (root l)) (normal_text l) ++ (operator_text o ++ x)) (group_text (right_in_parens o (root r)) (normal_words r) (normal_text r) (normal_words_text r h.1))
