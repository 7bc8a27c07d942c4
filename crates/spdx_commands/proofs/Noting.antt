-- Files, each by its device and its node.
use Rattle.std.proofs.Common.{◌≡◌, ◌∙◌, ℕ, ◌==◌, ◌&&◌, ◌||◌, Bool, true, false, refl, ap}
use Rattle.std.specs.Prelude.{cond}
use Rattle.std.specs.declared.cmp.Ordering.{Ordering}
use Rattle.std.specs.declared.cmp.Ordering.TheVariants.{Less, Equal, Greater}
use Rattle.std.specs.Ordering.{is_eq, nat_cmp, ordering_then}
use Rattle.std.specs.Cmp.{unsigned_tied}

both : (a b : Ordering) → is_eq (ordering_then a b) ≡ (is_eq a && is_eq b)
both Less b = refl
both Equal b = refl
both Greater b = refl

same : (a b c d : ℕ) → is_eq (ordering_then (nat_cmp a c) (nat_cmp b d)) ≡ ((a == c) && (b == d))
same a b c d = both (nat_cmp a c) (nat_cmp b d) ∙ ap (λ (x : Bool). x && is_eq (nat_cmp b d)) (unsigned_tied a c) ∙ ap (λ (x : Bool). (a == c) && x) (unsigned_tied b d)

picks : (x y : Bool) → cond x true y ≡ (x || y)
picks true y = refl
picks false y = refl

pub added : (a b c d : ℕ) (new old : Bool) → new ≡ cond (is_eq (ordering_then (nat_cmp a c) (nat_cmp b d))) true old → new ≡ (((a == c) && (b == d)) || old)
added a b c d new old is = is ∙ picks _ old ∙ ap (λ (x : Bool). x || old) (same a b c d)
