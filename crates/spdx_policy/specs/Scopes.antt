-- Which packages a table of a policy is for.
use Rattle.std.specs.Prelude.{ℕ, suc, Bool, true, false, ◌&&◌, List, [], ◌∷◌, Option, Some, None, option_and_then, slice_get, if◌then◌else◌, bytes_eq, length, option_map}
use Rattle.std.specs.Option.{option_map_or}
use Rattle.std.specs.Result.{result_ok}
use Rattle.semver.specs.Parse.{Parts, Held, version_parts}
use Rattle.semver.specs.EvalViews.{matches_views}

-- a package's name, and the range of its versions, if there is one
pub record ScopeRow : Type 0 where
  pub name : List ℕ
  pub versions : Option (List Held)

-- the version that a text is, if it is one
abbrev pub version_in : Option (List ℕ) → Option Parts
version_in text = option_and_then (λ (t : List ℕ). result_ok (version_parts t)) text

-- no range means each version, known or not; a range means no unknown one
abbrev pub is_meant : Option Parts → Option (List Held) → Bool
is_meant version None = true
is_meant None (Some range) = false
is_meant (Some version) (Some range) = matches_views range version

-- the table is for the package of that name and, if it has one, that version
abbrev pub holds : List ℕ → Option (List ℕ) → ScopeRow → Bool
holds name version s = bytes_eq name s.name && is_meant (version_in version) s.versions

-- the places at which the test passes, counted from the given one
abbrev pub places_from : {A : Type 0} → ℕ → (A → Bool) → List A → List ℕ
places_from i test [] = []
places_from i test (x ∷ xs) =
    if test x then i ∷ places_from (suc i) test xs else places_from (suc i) test xs

-- the places at which the test passes, ascending
abbrev pub places : {A : Type 0} → (A → Bool) → List A → List ℕ
places test xs = places_from 0 test xs

-- the range of the table at that place means the version
abbrev pub is_meant_at : List ScopeRow → Option Parts → ℕ → Bool
is_meant_at rows version table =
    option_map_or (λ (s : ScopeRow). is_meant version s.versions) (slice_get rows table) false

-- the package of a table
abbrev pub package_at : List ScopeRow → ℕ → Option (List ℕ)
package_at rows table = option_map (λ (s : ScopeRow). s.name) (slice_get rows table)

-- how many tables there are
abbrev pub row_count : List ScopeRow → ℕ
row_count rows = length rows
