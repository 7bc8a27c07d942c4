-- Requirements as numbers: the places where they first stand in a list.
use Rattle.std.specs.Prelude.{ℕ, ◌+◌, Bool, false, cond, List, [], ◌∷◌, slice_get}
use Rattle.std.specs.Option.{option_map_or}
use Rattle.spdx_requirement.specs.Items.{Requirement}
use Rattle.spdx_requirement.specs.Equality.{same_requirement}

-- how many stand before the first that is the same; how many there are, where none is
abbrev pub place_in : List Requirement → Requirement → ℕ
place_in [] r = 0
place_in (q ∷ qs) r = cond (same_requirement q r) 0 (place_in qs r + 1)

-- the answer to the requirement at a place; none is there, no
abbrev pub answer_at : List Requirement → (Requirement → Bool) → ℕ → Bool
answer_at qs answer k = option_map_or answer (slice_get qs k) false
