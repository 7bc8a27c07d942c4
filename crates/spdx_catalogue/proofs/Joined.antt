-- A name against two texts joined.
use Rattle.std.proofs.Common.{◌≡◌, ℕ, ◌<◌, ◌≤◌, List, [], ◌∷◌, ◌++◌, length, take, drop, refl, ◌∙◌, ap, arith}
use Rattle.std.specs.declared.cmp.Ordering.{Ordering}
use Rattle.std.specs.declared.cmp.Ordering.TheVariants.{Less, Equal, Greater}
use Rattle.std.specs.Ordering.{nat_cmp, ordering_then}
use Rattle.std.specs.Cmp.Lexicographic.{slice_cmp}

pub short : (name front ending : List ℕ) → length name < length front → slice_cmp nat_cmp name (front ++ ending) ≡ slice_cmp nat_cmp name front
short name [] ending lt = absurd (omega arith)
short [] (f ∷ front) ending lt = refl
short (x ∷ name) (f ∷ front) ending lt = ap (ordering_then (nat_cmp x f)) (short name front ending (omega arith))

then_assoc : (a b c : Ordering) → ordering_then a (ordering_then b c) ≡ ordering_then (ordering_then a b) c
then_assoc Less b c = refl
then_assoc Equal b c = refl
then_assoc Greater b c = refl

pub long : (name front ending : List ℕ) → length front ≤ length name
    → slice_cmp nat_cmp name (front ++ ending) ≡ ordering_then (slice_cmp nat_cmp (take (length front) name) front) (slice_cmp nat_cmp (drop (length front) name) ending)
long name [] ending le = refl
long [] (f ∷ front) ending le = absurd (omega arith)
long (x ∷ name) (f ∷ front) ending le = ap (ordering_then (nat_cmp x f)) (long name front ending (omega arith)) ∙ then_assoc (nat_cmp x f) _ _
