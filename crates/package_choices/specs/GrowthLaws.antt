-- What suffices for all stays sufficient where more is chosen.
use Rattle.std.specs.Prelude.{◌≡◌, ℕ, Bool, true, false, ◌&&◌, List, [], ◌∷◌}
use Rattle.std.proofs.Common.{refl}
use Rattle.selections.specs.Selection.{IsWithin}
use Rattle.spdx_minimize.specs.GrowthLaws.{truth_grows}
use Rattle.spdx_why.specs.Missing.{answer_in}
use Rattle.spdx_why.specs.GrowthLaws.{within_at}
use Rattle.package_choices.specs.Choice.{Asked, met, met_in, is_true_in, suffices_for}

both_grow : (a b x y : Bool) → (a ≡ true → x ≡ true) → (b ≡ true → y ≡ true) → (a && b) ≡ true →
    (x && y) ≡ true
both_grow false b x y f g h = let e : false ≡ true = h in cc
both_grow true false x y f g h = let e : false ≡ true = h in cc
both_grow true true true true f g h = refl
both_grow true true false y f g h = f refl
both_grow true true true false f g h = g refl

met_grows : (allowed : List Bool) (numbers : List ℕ) (some more : List Bool) → IsWithin some more →
    IsWithin (met allowed numbers some) (met allowed numbers more)
met_grows [] numbers some more h = tt
met_grows (b ∷ bs) [] some more h = tt
met_grows (b ∷ bs) (n ∷ ns) some more h = (
  both_grow b (answer_in some n) b (answer_in more n) (λ e. e) (within_at some more h n),
  met_grows bs ns some more h,
)

-- a selection that contains a sufficient one suffices
pub suffices_grows : (qs : List Asked) (some more : List Bool) → IsWithin some more →
    suffices_for qs some ≡ true → suffices_for qs more ≡ true
suffices_grows [] some more h e = e
suffices_grows (q ∷ qs) some more h e =
    both_grow (is_true_in some q) (suffices_for qs some) (is_true_in more q) (suffices_for qs more)
    (truth_grows q.tree (met_in q some) (met_in q more) (met_grows q.allowed q.numbers some more h))
    (suffices_grows qs some more h) e
