-- The place of a requirement is that of the first that ties with it.
use Rattle.std.proofs.Common.{◌≡◌, ℕ, zero, suc, ◌+◌, ◌≤◌, Bool, cond, List, [], ◌∷◌, refl, ◌∙◌, ap, arith}
use Rattle.std.specs.Ordering.{is_eq}
use Rattle.std.specs.declared.cmp.Ordering.{Ordering}
use Rattle.std.specs.declared.cmp.Ordering.TheVariants.{Less, Equal, Greater}
use Rattle.spdx_requirement.specs.Items.{Requirement}
use Rattle.spdx_requirement.specs.Orders.{requirement_cmp}
use Rattle.spdx_meaning.specs.Places.{place_in}
use Rattle.spdx_meaning.proofs.Order.{requirements_total, same_is_tied}
use Rattle.spdx_meaning.proofs.Numbered.{IsFirstTie}

pub place_is : (qs : List Requirement) (r : Requirement) (k : ℕ) → IsFirstTie requirement_cmp requirements_total qs r k → place_in qs r ≡ k
place_is [] r k h = let few : k ≤ 0 = h.within in let is : 0 ≡ k = omega arith in is
place_is (q ∷ qs) r zero h = ap (λ (b : Bool). cond b 0 (place_in qs r + 1)) (same_is_tied q r ∙ ap is_eq (h.tied (omega arith)))
place_is (q ∷ qs) r (suc k) h =
    ap (λ (b : Bool). cond b 0 (place_in qs r + 1)) (same_is_tied q r)
    ∙ cases (requirement_cmp q r) refl (place_is qs r k (record { within = omega (arith, h.within); tied = λ l. h.tied (omega arith); none = λ j l. h.none (suc j) (omega arith) }))
  where
    cases : (w : Ordering) → requirement_cmp q r ≡ w → place_in qs r ≡ k → cond (is_eq w) 0 (place_in qs r + 1) ≡ suc k
    cases Less e rest = omega (arith, rest)
    cases Equal e rest = absurd (h.none 0 (omega arith) e)
    cases Greater e rest = omega (arith, rest)
