-- What holds of the changes between two lists.
use Rattle.std.specs.Prelude.{◌≡◌, ◌≢◌, List, [], ◌∷◌, All, Contains, map, flat_map}
use Rattle.std.specs.List.Sorted.{IsPermutation}
use Rattle.package_changes.specs.Rows.{Row, ChangeRow, stayed, went, came}
use Rattle.package_changes.specs.Pairing.{changes}

-- the packages of the older list that a change tells of, and those of the newer one
abbrev pub old_of : ChangeRow → List Row
old_of (stayed old new) = old ∷ []
old_of (went old) = old ∷ []
old_of (came new) = []

abbrev pub new_of : ChangeRow → List Row
new_of (stayed old new) = new ∷ []
new_of (went old) = []
new_of (came new) = new ∷ []

abbrev pub HasOneName : ChangeRow → Type 0
HasOneName (stayed old new) = old.name ≡ new.name
HasOneName (went old) = Unit {0}
HasOneName (came new) = Unit {0}

abbrev pub IsNone : ChangeRow → Type 0
IsNone (stayed old new) = old ≡ new
IsNone (went old) = ⊥
IsNone (came new) = ⊥

-- the other way round
abbrev pub turned : ChangeRow → ChangeRow
turned (stayed old new) = stayed new old
turned (went old) = came old
turned (came new) = went new

-- each package of both lists is told once
pub record TellsEach (old new : List Row) : Type 0 where
  pub old_once : IsPermutation old (flat_map old_of (changes old new))
  pub new_once : IsPermutation new (flat_map new_of (changes old new))

pub record AreChanges (old new : List Row) : Type 0 where
  pub each : TellsEach old new
  pub names : All HasOneName (changes old new)
  -- of what went no other version came
  pub apart : (r s : Row) → Contains (changes old new) (went r) →
      Contains (changes old new) (came s) → r.name ≢ s.name
  -- in whichever order the packages stand in their files
  pub order : (olds news : List Row) → IsPermutation old olds → IsPermutation new news →
      changes olds news ≡ changes old new
  -- nothing changed where the lists have the same packages
  pub same : IsPermutation old new → All IsNone (changes old new)
  -- what came and what went change places
  pub back : IsPermutation (map turned (changes old new)) (changes new old)
