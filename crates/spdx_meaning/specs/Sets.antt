-- Sets over some order, and lists of sets.
use Rattle.std.specs.Prelude.{◌≡◌, ◌⊎◌, Bool, true, ◌&&◌, not, List, [], ◌∷◌, length}
use Rattle.std.specs.List.{list_any, list_all}
use Rattle.std.specs.Ordering.{nat_cmp, ordering_then, is_lt}
use Rattle.std.specs.declared.cmp.Ordering.{Ordering}
use Rattle.std.specs.Cmp.Lexicographic.{slice_cmp}

-- x is one of them
abbrev pub In : {X : Type 0} → List X → X → Type 0
In [] x = ⊥
In (y ∷ ys) x = (y ≡ x) ⊎ In ys x

-- the test holds of each with each later one
abbrev pub AllLater : {X : Type 0} → (X → X → Bool) → List X → Type 0
AllLater test [] = Unit {0}
AllLater test (x ∷ xs) = (list_all (test x) xs ≡ true) × AllLater test xs

abbrev pub is_before : {X : Type 0} → (X → X → Ordering) → X → X → Bool
is_before cmp x y = is_lt (cmp x y)

-- whether a set has each of another one
abbrev pub includes : {X : Type 0} → (X → X → Bool) → List X → List X → Bool
includes same set other = list_all (λ x. list_any (λ y. same y x) set) other

-- neither includes the other
abbrev pub differ : {X : Type 0} → (X → X → Bool) → List X → List X → Bool
differ same s m = not (includes same s m) && not (includes same m s)

-- by size, then by the first that differs
abbrev pub sets_cmp : {X : Type 0} → (X → X → Ordering) → List X → List X → Ordering
sets_cmp cmp s m = ordering_then (nat_cmp (length s) (length m)) (slice_cmp cmp s m)
