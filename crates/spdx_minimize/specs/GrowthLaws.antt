-- What is true of a selection stays true of a larger one.
use Rattle.std.specs.Prelude.{◌≡◌, ℕ, zero, suc, Bool, true, false, ◌&&◌, ◌||◌, List, [], ◌∷◌, length, take, drop, map}
use Rattle.std.specs.List.{list_all}
use Rattle.std.proofs.Common.{refl}
use Rattle.spdx_requirement.specs.Items.{Requirement}
use Rattle.spdx_parser.specs.declared.node.Operator.{Operator}
use Rattle.spdx_parser.specs.declared.node.Operator.TheVariants.{And, Or}
use Rattle.spdx_parser.specs.Tree.{Tree, Leaf, Join, leaves}
use Rattle.spdx_licensee.specs.Satisfies.{satisfies}
use Rattle.selections.specs.Selection.{IsWithin}
use Rattle.spdx_evaluation.specs.Truth.{joined, truth_of}
use Rattle.spdx_minimize.specs.Choice.{any_chosen, suffices_for}
use Rattle.spdx_evaluation.specs.Truth.{holds}

both_grow : (a b x y : Bool) → (a ≡ true → x ≡ true) → (b ≡ true → y ≡ true) → (a && b) ≡ true →
    (x && y) ≡ true
both_grow false b x y f g h = let e : false ≡ true = h in cc
both_grow true false x y f g h = let e : false ≡ true = h in cc
both_grow true true true true f g h = refl
both_grow true true false y f g h = f refl
both_grow true true true false f g h = g refl

either_grows : (a b x y : Bool) → (a ≡ true → x ≡ true) → (b ≡ true → y ≡ true) → (a || b) ≡ true →
    (x || y) ≡ true
either_grows a b true y f g h = refl
either_grows a b false true f g h = refl
either_grows true b false false f g h = f refl
either_grows false true false false f g h = g refl
either_grows false false false false f g h = h

within_take : (n : ℕ) (xs ys : List Bool) → IsWithin xs ys → IsWithin (take n xs) (take n ys)
within_take zero xs ys h = tt
within_take (suc n) [] [] h = tt
within_take (suc n) (x ∷ xs) (y ∷ ys) h = (h.0, within_take n xs ys h.1)
within_take (suc n) [] (y ∷ ys) h = absurd h
within_take (suc n) (x ∷ xs) [] h = absurd h

within_drop : (n : ℕ) (xs ys : List Bool) → IsWithin xs ys → IsWithin (drop n xs) (drop n ys)
within_drop zero xs ys h = h
within_drop (suc n) [] [] h = tt
within_drop (suc n) (x ∷ xs) (y ∷ ys) h = within_drop n xs ys h.1
within_drop (suc n) [] (y ∷ ys) h = absurd h
within_drop (suc n) (x ∷ xs) [] h = absurd h

joined_grows : (o : Operator) (a b x y : Bool) → (a ≡ true → x ≡ true) → (b ≡ true → y ≡ true) →
    joined o a b ≡ true → joined o x y ≡ true
joined_grows And a b x y f g h = both_grow a b x y f g h
joined_grows Or a b x y f g h = either_grows a b x y f g h

-- answers that turn from false to true turn no tree from true to false
abbrev pub TruthGrows : Tree → Type 0
TruthGrows t =
    (some more : List Bool) → IsWithin some more → truth_of t some ≡ true → truth_of t more ≡ true

pub truth_grows : (t : Tree) → TruthGrows t
truth_grows (Leaf r) [] [] h e = e
truth_grows (Leaf r) [] (y ∷ ys) h e = absurd h
truth_grows (Leaf r) (x ∷ xs) [] h e = absurd h
truth_grows (Leaf r) (x ∷ xs) (y ∷ ys) h e = h.0 e
truth_grows (Join o l r) xs ys h e =
    let n = length (leaves l) in
    joined_grows o (truth_of l (take n xs)) (truth_of r (drop n xs)) (truth_of l (take n ys))
    (truth_of r (drop n ys))
    (truth_grows l (take n xs) (take n ys) (within_take n xs ys h))
    (truth_grows r (drop n xs) (drop n ys) (within_drop n xs ys h)) e

within_map : (p q : Requirement → Bool) → ((r : Requirement) → p r ≡ true → q r ≡ true) →
    (rs : List Requirement) → IsWithin (map p rs) (map q rs)
within_map p q h [] = tt
within_map p q h (r ∷ rs) = (h r, within_map p q h rs)

any_grows : (ms : List Requirement) (some more : List Bool) (r : Requirement) → IsWithin some more →
    any_chosen ms some r ≡ true → any_chosen ms more r ≡ true
any_grows [] some more r h e = e
any_grows (m ∷ ms) [] [] r h e = e
any_grows (m ∷ ms) [] (y ∷ ys) r h e = absurd h
any_grows (m ∷ ms) (x ∷ xs) [] r h e = absurd h
any_grows (m ∷ ms) (x ∷ xs) (y ∷ ys) r h e =
    either_grows (x && satisfies m r) (any_chosen ms xs r) (y && satisfies m r) (any_chosen ms ys r)
    (both_grow x (satisfies m r) y (satisfies m r) h.0 (λ k. k)) (any_grows ms xs ys r h.1) e

all_grow : (p q : Requirement → Bool) → ((r : Requirement) → p r ≡ true → q r ≡ true) →
    (ts : List Tree) → list_all (holds p) ts ≡ true → list_all (holds q) ts ≡ true
all_grow p q h [] e = e
all_grow p q h (t ∷ ts) e =
    both_grow (holds p t) (list_all (holds p) ts) (holds q t) (list_all (holds q) ts)
    (truth_grows t (map p (leaves t)) (map q (leaves t)) (within_map p q h (leaves t)))
    (all_grow p q h ts) e

-- a selection that contains a sufficient one suffices
pub suffices_grows : (trees : List Tree) (members : List Requirement) (some more : List Bool) →
    IsWithin some more → suffices_for trees members some ≡ true →
    suffices_for trees members more ≡ true
suffices_grows trees members some more h e =
    all_grow (any_chosen members some) (any_chosen members more)
    (λ r. any_grows members some more r h) trees e
