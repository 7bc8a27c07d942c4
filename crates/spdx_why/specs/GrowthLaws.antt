-- What suffices stays sufficient where more is chosen.
use Rattle.std.specs.Prelude.{◌≡◌, ℕ, zero, suc, Bool, true, false, ◌||◌, List, [], ◌∷◌}
use Rattle.std.specs.List.{list_any}
use Rattle.std.proofs.Common.{refl}
use Rattle.spdx_parser.specs.Tree.{Tree}
use Rattle.selections.specs.Selection.{IsWithin}
use Rattle.spdx_evaluation.specs.Truth.{truth_of}
use Rattle.spdx_minimize.specs.GrowthLaws.{truth_grows}
use Rattle.spdx_why.specs.Missing.{answer_in}
use Rattle.spdx_why.specs.Serving.{served_by, serves_in}

-- what some answers accept, more answers accept
pub within_at : (xs ys : List Bool) → IsWithin xs ys → (k : ℕ) → answer_in xs k ≡ true →
    answer_in ys k ≡ true
within_at [] [] h k e = e
within_at [] (y ∷ ys) h k e = absurd h
within_at (x ∷ xs) [] h k e = absurd h
within_at (x ∷ xs) (y ∷ ys) h zero e = h.0 e
within_at (x ∷ xs) (y ∷ ys) h (suc k) e = within_at xs ys h.1 k e

either_grows : (a b x y : Bool) → (a ≡ true → x ≡ true) → (b ≡ true → y ≡ true) → (a || b) ≡ true →
    (x || y) ≡ true
either_grows a b true y f g h = refl
either_grows a true false y f g h = g refl
either_grows true false false y f g h = let bad : false ≡ true = f refl in cc
either_grows false false false y f g h = let bad : false ≡ true = h in cc

any_grows : (some more : ℕ → Bool) → ((k : ℕ) → some k ≡ true → more k ≡ true) → (ks : List ℕ) →
    list_any some ks ≡ true → list_any more ks ≡ true
any_grows some more f [] e = e
any_grows some more f (k ∷ ks) e =
    either_grows (some k) (list_any some ks) (more k) (list_any more ks) (f k)
    (any_grows some more f ks) e

within_served : (some more : ℕ → Bool) → ((k : ℕ) → some k ≡ true → more k ≡ true) →
    (accepted : List Bool) (serving : List (List ℕ)) →
    IsWithin (served_by some accepted serving) (served_by more accepted serving)
within_served some more f [] serving = tt
within_served some more f (a ∷ rest) [] = tt
within_served some more f (a ∷ rest) (s ∷ ss) = (
  either_grows a (list_any some s) a (list_any more s) (λ e. e) (any_grows some more f s),
  within_served some more f rest ss,
)

-- where more candidates are taken the tree stays true
pub served_grows : (t : Tree) (accepted : List Bool) (serving : List (List ℕ))
    (some more : ℕ → Bool) → ((k : ℕ) → some k ≡ true → more k ≡ true)
    → truth_of t (served_by some accepted serving) ≡ true →
    truth_of t (served_by more accepted serving) ≡ true
served_grows t accepted serving some more f e =
    truth_grows t (served_by some accepted serving) (served_by more accepted serving)
    (within_served some more f accepted serving) e

-- a selection that contains a sufficient one suffices
pub serves_grows : (t : Tree) (accepted : List Bool) (serving : List (List ℕ))
    (some more : List Bool) → IsWithin some more
    → serves_in t accepted serving some ≡ true → serves_in t accepted serving more ≡ true
serves_grows t accepted serving some more h e =
    served_grows t accepted serving (answer_in some) (answer_in more) (within_at some more h) e
