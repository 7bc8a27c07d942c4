-- Requirements that tell two expressions apart.
use Rattle.std.specs.Prelude.{◌≡◌, ◌≤◌, ℕ, Bool, true, false, List, [], ◌∷◌, Option, None, Some, length, map, slice_get}
use Rattle.std.specs.List.{list_any}
use Rattle.std.specs.Option.{option_map_or}
use Rattle.spdx_requirement.specs.Items.{Requirement}
use Rattle.spdx_requirement.specs.Equality.{same_requirement}
use Rattle.spdx_requirement.specs.Texts.{requirement_text}
use Rattle.spdx_parser.specs.Tree.{Tree}
use Rattle.spdx_evaluation.specs.Truth.{holds}
use Rattle.spdx_meaning.specs.Meaning.{AsksAtLeast}

-- whether the requirement is one of these
abbrev pub accepts : List Requirement → Requirement → Bool
accepts accepted r = list_any (λ q. same_requirement q r) accepted

abbrev pub names_of : List Requirement → List (List ℕ)
names_of accepted = map requirement_text accepted

-- where the requirements of these names alone are accepted, the one holds and the other one doesn't
abbrev pub TellApart : Tree → Tree → List (List ℕ) → Type 0
TellApart t u names =
    (accepted : List Requirement) × (names ≡ names_of accepted) ×
    (holds (accepts accepted) t ≡ true) × (holds (accepts accepted) u ≡ false)

-- so do these, and no fewer
pub record AreFewest (t u : Tree) (names : List (List ℕ)) : Type 0 where
  pub apart : TellApart t u names
  pub fewest : (others : List (List ℕ)) → TellApart t u others → length names ≤ length others

-- as few as there are; none where the one asks at least what the other one asks
abbrev pub IsAlone : Tree → Tree → Option (List (List ℕ)) → Type 0
IsAlone t u None = AsksAtLeast t u
IsAlone t u (Some names) = AreFewest t u names

-- the name of the requirement at a place, where there is one. Only private clauses cite it.
abbrev pub name_at : List Requirement → ℕ → List (List ℕ)
name_at qs k = option_map_or (λ q. requirement_text q ∷ []) (slice_get qs k) []
