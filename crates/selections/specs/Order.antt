-- The order of sets.
use Rattle.std.specs.Prelude.{◌≡◌, ℕ, Bool, true, List, [], ◌∷◌, length}
use Rattle.std.specs.Ordering.{nat_cmp, ordering_then, is_lt}
use Rattle.std.specs.declared.cmp.Ordering.{Ordering}
use Rattle.std.specs.List.{list_all}
use Rattle.std.specs.Cmp.Lexicographic.{slice_cmp}

-- by size, then by the first number that differs
abbrev pub set_cmp : List ℕ → List ℕ → Ordering
set_cmp s m = ordering_then (nat_cmp (length s) (length m)) (slice_cmp nat_cmp s m)

abbrev pub below : List ℕ → List ℕ → Bool
below s m = is_lt (set_cmp s m)

-- each set is below all later ones
abbrev pub AreInOrder : List (List ℕ) → Type 0
AreInOrder [] = Unit {0}
AreInOrder (s ∷ ss) = (list_all (below s) ss ≡ true) × AreInOrder ss
