-- The grammar makes the tree of its normal words.
use Rattle.std.proofs.Common.{true, List, [], ◌∷◌, ◌++◌, sym, subst, append_assoc, append-nil}
use Rattle.spdx_requirement.specs.Rows.{Rows}
use Rattle.spdx_lexer.specs.Modes.{strict}
use Rattle.spdx_lexer.specs.Words as Words
use Rattle.spdx_lexer.specs.Words.{Word, CloseParen}
use Rattle.spdx_parser.specs.declared.node.Operator.TheVariants.{And, Or}
use Rattle.spdx_parser.specs.Tree.{Tree, Leaf, Join}
use Rattle.spdx_parser.specs.Grammar.{Derives}
use Rattle.spdx_parser.proofs.Threaded.{PrimaryOf, leaf, group, AndOf, one_primary, and_more, OrOf, one_and, or_more, derives}
use Rattle.spdx_canonical.specs.Normal.{root, left_in_parens, right_in_parens}
use Rattle.spdx_canonical.specs.NormalLaw.{EachLeaf}
use Rattle.spdx_canonical.proofs.Leaves.{IsGood}
use Rattle.spdx_canonical.proofs.Words.{group_if, normal_words}

module _ (c : Rows) where
  -- as a primary, in a chain of AND, and as a whole; whatever follows
  record IsDerived (t : Tree) : Type 0 where
    primary : (more : List Word) → PrimaryOf c strict (group_if (left_in_parens And (root t)) (normal_words t) ++ more) t more
    chain : (more : List Word) → AndOf c strict (group_if (right_in_parens And (root t)) (normal_words t) ++ more) t more
    whole : (more : List Word) → OrOf c strict (normal_words t ++ more) t more

  grouped : (t : Tree) → ((more : List Word) → OrOf c strict (normal_words t ++ more) t more) → (more : List Word) → PrimaryOf c strict (group_if true (normal_words t) ++ more) t more
  grouped t d more = group (subst (λ (ws : List Word). OrOf c strict ws t (CloseParen ∷ more)) (sym (append_assoc (normal_words t) (CloseParen ∷ []) more)) (d (CloseParen ∷ more)))

  derived : (t : Tree) → EachLeaf (IsGood c) t → IsDerived t
  derived (Leaf r) h = record { primary = λ more. leaf (h.means more); chain = λ more. one_primary (leaf (h.means more)); whole = λ more. one_and (one_primary (leaf (h.means more))) }
  derived (Join And l r) h =
      let left = group_if (left_in_parens And (root l)) (normal_words l) in
      let right = group_if (right_in_parens And (root r)) (normal_words r) in
      let chain : (more : List Word) → AndOf c strict ((left ++ Words.And ∷ right) ++ more) (Join And l r) more = λ more.
      subst (λ (ws : List Word). AndOf c strict ws (Join And l r) more) (sym (append_assoc left (Words.And ∷ right) more)) (and_more ((derived l h.0).primary (Words.And ∷ (right ++ more))) ((derived r h.1).chain more)) in
      let whole : (more : List Word) → OrOf c strict ((left ++ Words.And ∷ right) ++ more) (Join And l r) more = λ more. one_and (chain more) in
      record { primary = grouped (Join And l r) whole; chain = chain; whole = whole }
  derived (Join Or l r) h =
      let left = group_if (left_in_parens Or (root l)) (normal_words l) in
      let right = normal_words r in
      let whole : (more : List Word) → OrOf c strict ((left ++ Words.Or ∷ right) ++ more) (Join Or l r) more = λ more.
      subst (λ (ws : List Word). OrOf c strict ws (Join Or l r) more) (sym (append_assoc left (Words.Or ∷ right) more)) (or_more ((derived l h.0).chain (Words.Or ∷ (right ++ more))) ((derived r h.1).whole more)) in
      record { primary = grouped (Join Or l r) whole; chain = λ more. one_primary (grouped (Join Or l r) whole more); whole = whole }

  pub normal_derived : (t : Tree) → EachLeaf (IsGood c) t → Derives c strict (normal_words t) t
  normal_derived t h = derives c strict (subst (λ (ws : List Word). OrOf c strict ws t []) (append-nil (normal_words t)) ((derived t h).whole []))
