-- Selections of the members of a list: a truth for each member, true where it is chosen.
use Rattle.std.specs.Prelude.{◌≡◌, ◌≢◌, ℕ, ◌+◌, Bool, true, false, List, [], ◌∷◌, ◌++◌, length, replicate, min}

-- whatever the first chooses, the second chooses too
abbrev pub IsWithin : List Bool → List Bool → Type 0
IsWithin [] [] = Unit {0}
IsWithin (a ∷ xs) (b ∷ ys) = (a ≡ true → b ≡ true) × IsWithin xs ys
IsWithin [] (b ∷ ys) = ⊥
IsWithin (a ∷ xs) [] = ⊥

-- the selection of all of n members
abbrev pub everything : ℕ → List Bool
everything n = replicate n true

-- on the last member on which the two differ, the first leaves it out and the second chooses it
abbrev pub LeavesOutLast : List Bool → List Bool → Type 0
LeavesOutLast chosen other = (front : List Bool) × (others : List Bool) × (back : List Bool)
    × (length front ≡ length others) × (chosen ≡ front ++ false ∷ back) ×
    (other ≡ others ++ true ∷ back)

-- of the sufficient selections of n members, the one that against each other one leaves out the
-- last member on which they differ
pub record IsLeast (suffices : List Bool → Bool) (n : ℕ) (chosen : List Bool) : Type 0 where
  pub each_member : length chosen ≡ n
  pub sufficient : suffices chosen ≡ true
  pub leaves_out : (other : List Bool) → length other ≡ n → suffices other ≡ true → other ≢ chosen →
      LeavesOutLast chosen other

-- no other selection of n members is the least
abbrev pub IsOnlyLeast : (List Bool → Bool) → ℕ → List Bool → Type 0
IsOnlyLeast suffices n chosen = (other : List Bool) → IsLeast suffices n other → other ≡ chosen

-- no chosen member can be left out with the rest sufficient
abbrev pub NeedsEach : (List Bool → Bool) → List Bool → Type 0
NeedsEach suffices chosen =
    (fewer : List Bool) → IsWithin fewer chosen → suffices fewer ≡ true → fewer ≡ chosen

-- no selection of n members suffices
abbrev pub NoneSuffices : (List Bool → Bool) → ℕ → Type 0
NoneSuffices suffices n = (some : List Bool) → length some ≡ n → suffices some ≡ false

-- one question more, of which at most 2 ^ 64 - 1 are counted
abbrev pub one_more : ℕ → ℕ
one_more n = min (n + 1) 18446744073709551615
