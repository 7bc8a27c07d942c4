-- The tree of least sets, as it is read and written.
use Rattle.std.proofs.Common.{◌≡◌, ◌⊎◌, ℕ, Bool, true, false, List, [], ◌∷◌, ◌++◌, sym, ◌∙◌, ap, subst, inl, inr, append-nil, refl}
use Rattle.std.specs.Prelude.{codes}
use Rattle.std.specs.List.{AllByRecursion}
use Rattle.spdx_requirement.specs.Items.{Requirement}
use Rattle.spdx_requirement.specs.Texts.{requirement_text}
use Rattle.spdx_parser.specs.Tree.{Tree, Leaf, Join, leaves}
use Rattle.spdx_canonical.specs.Normal.{root, is_or, in_parens_if, normal_text}
use Rattle.spdx_canonical.specs.NormalLaw.{EachLeaf}
use Rattle.spdx_meaning.specs.Sets.{In}
use Rattle.spdx_meaning.specs.LeastSets.{all_from, all_of, any_from, any_of}
use Rattle.spdx_meaning.specs.Joined.{joined, sets_text}
use Rattle.spdx_meaning.proofs.Tree.{IsFilled}

-- ---- its requirements

each_from : (P : Requirement → Type 0) (r : Requirement) (rs : List Requirement) → P r → AllByRecursion P rs → EachLeaf P (all_from r rs)
each_from P r [] h all = h
each_from P r (q ∷ qs) h all = (h, each_from P q qs all.0 all.1)

each_of : (P : Requirement → Type 0) (s : List Requirement) → IsFilled s → AllByRecursion P s → EachLeaf P (all_of s)
each_of P [] e all = let bad : true ≡ false = e in cc
each_of P (r ∷ rs) e all = each_from P r rs all.0 all.1

each_any : (P : Requirement → Type 0) (s : List Requirement) (ss : List (List Requirement)) → IsFilled s → AllByRecursion IsFilled ss → AllByRecursion P s → AllByRecursion (AllByRecursion P) ss → EachLeaf P (any_from s ss)
each_any P s [] e all h k = each_of P s e h
each_any P s (m ∷ ms) e all h k = (each_of P s e h, each_any P m ms all.0 all.1 k.0 k.1)

pub each_leaf : (P : Requirement → Type 0) (sets : List (List Requirement)) → (sets ≡ [] → ⊥) → AllByRecursion IsFilled sets → AllByRecursion (AllByRecursion P) sets → EachLeaf P (any_of sets)
each_leaf P [] some all h = absurd (some refl)
each_leaf P (s ∷ ss) some all h = each_any P s ss all.0 all.1 h.0 h.1

-- what holds of each requirement of a tree holds of one
split_in : (xs ys : List Requirement) (r : Requirement) → In (xs ++ ys) r → In xs r ⊎ In ys r
split_in [] ys r h = inr h
split_in (x ∷ xs) ys r h = elim h [
  | inl e ↦ inl (inl e)
  | inr k ↦ elim (split_in xs ys r k) [ inl m ↦ inl (inr m) | inr m ↦ inr m ]
]

pub leaf_of : (P : Requirement → Type 0) (t : Tree) → EachLeaf P t → (r : Requirement) → In (leaves t) r → P r
leaf_of P (Leaf q) h r there = elim there [ inl e ↦ subst P e h | inr k ↦ absurd k ]
leaf_of P (Join o l m) h r there = elim (split_in (leaves l) (leaves m) r there) [
  | inl k ↦ leaf_of P l h.0 r k
  | inr k ↦ leaf_of P m h.1 r k
]

-- ---- its text

from_bare : (r : Requirement) (rs : List Requirement) → is_or (root (all_from r rs)) ≡ false
from_bare r [] = refl
from_bare r (q ∷ qs) = refl

set_bare : (s : List Requirement) → IsFilled s → is_or (root (all_of s)) ≡ false
set_bare [] e = let bad : true ≡ false = e in cc
set_bare (r ∷ rs) e = from_bare r rs

from_text : (r : Requirement) (rs : List Requirement) → normal_text (all_from r rs) ≡ joined (codes " AND ") requirement_text (r ∷ rs)
from_text r [] = sym (append-nil (requirement_text r))
from_text r (q ∷ qs) =
    ap (λ (b : Bool). requirement_text r ++ (codes " AND " ++ in_parens_if b (normal_text (all_from q qs)))) (from_bare q qs)
    ∙ ap (λ (x : List ℕ). requirement_text r ++ (codes " AND " ++ x)) (from_text q qs)

set_text : (s : List Requirement) → IsFilled s → normal_text (all_of s) ≡ joined (codes " AND ") requirement_text s
set_text [] e = let bad : true ≡ false = e in cc
set_text (r ∷ rs) e = from_text r rs

any_text : (s : List Requirement) (ss : List (List Requirement)) → IsFilled s → AllByRecursion IsFilled ss → normal_text (any_from s ss) ≡ joined (codes " OR ") (joined (codes " AND ") requirement_text) (s ∷ ss)
any_text s [] e all = set_text s e ∙ sym (append-nil (joined (codes " AND ") requirement_text s))
any_text s (m ∷ ms) e all =
    ap (λ (b : Bool). in_parens_if b (normal_text (all_of s)) ++ (codes " OR " ++ normal_text (any_from m ms))) (set_bare s e)
    ∙ ap (λ (x : List ℕ). x ++ (codes " OR " ++ normal_text (any_from m ms))) (set_text s e)
    ∙ ap (λ (x : List ℕ). joined (codes " AND ") requirement_text s ++ (codes " OR " ++ x)) (any_text m ms all.0 all.1)

pub text_of_sets : (sets : List (List Requirement)) → (sets ≡ [] → ⊥) → AllByRecursion IsFilled sets → normal_text (any_of sets) ≡ sets_text sets
text_of_sets [] some all = absurd (some refl)
text_of_sets (s ∷ ss) some all = any_text s ss all.0 all.1
