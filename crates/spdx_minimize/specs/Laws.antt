-- The least selection, found as the first that suffices and as the one that leaves out more of the
-- last members.
use Rattle.std.specs.Prelude.{◌≡◌, ◌↔◌, ℕ, Bool, List, Some}
use Rattle.selections.specs.Selection.{IsLeast}
use Rattle.spdx_minimize.specs.Choice.{least_of}

abbrev pub IsFirstLeast : Type 0
IsFirstLeast =
    (suffices : List Bool → Bool) (n : ℕ) (s : List Bool) → (least_of suffices n ≡ Some s) ↔
    IsLeast suffices n s
