-- Requirements with the places where they stand, in order.
use Rattle.std.specs.Prelude.{◌≡◌, ℕ, ◌+◌, true, false, List, [], ◌∷◌, map}
use Rattle.std.specs.List.Sorted.{IsPermutation, IsSortedBy, IsPartitionPoint}
use Rattle.std.specs.Ordering.{nat_cmp, ordering_then, is_lt}
use Rattle.std.specs.declared.cmp.Ordering.{Ordering}
use Rattle.spdx_requirement.specs.Items.{Requirement, requirement_of}
use Rattle.spdx_requirement.specs.Orders.{requirement_cmp}
use Rattle.spdx_meaning.specs.declared.places.Placed.{Placed}

-- each with its place, from a first one on
abbrev pub numbered : {K : Type 0} → ℕ → List K → List (K × ℕ)
numbered n [] = []
numbered n (k ∷ ks) = (k, n) ∷ numbered (n + 1) ks

-- by itself, then by its place
abbrev pub numbered_cmp : {K : Type 0} → (K → K → Ordering) → K × ℕ → K × ℕ → Ordering
numbered_cmp cmp x y = ordering_then (cmp x.0 y.0) (nat_cmp x.1 y.1)

abbrev pub entry_of : Placed → Requirement × ℕ
entry_of p = (requirement_of p.requirement.now, p.place)

abbrev pub placed_cmp : Placed → Placed → Ordering
placed_cmp p q = numbered_cmp requirement_cmp (entry_of p) (entry_of q)

-- these requirements, each with its place
abbrev pub ArePlaced : List Requirement → List Placed → Type 0
ArePlaced qs ps = IsPermutation (numbered 0 qs) (map entry_of ps)

-- none stands before the one in front of it
abbrev pub AreOrdered : List Placed → Type 0
AreOrdered ps = IsSortedBy (λ p q. is_lt (placed_cmp p q)) ps

-- those in front of the place are less than the requirement, and the others aren't
abbrev pub IsFirstFrom : List Placed → Requirement → ℕ → Type 0
IsFirstFrom ps r i =
    IsPartitionPoint (λ p. is_lt (requirement_cmp (requirement_of p.requirement.now) r) ≡ true)
    (λ p. is_lt (requirement_cmp (requirement_of p.requirement.now) r) ≡ false) ps i
