-- The rules row by row, as the code checks them.
use Rattle.std.specs.Prelude.{ℕ, zero, suc, List, [], ◌∷◌, ◌++◌, Option, Some, None, option_map, if◌then◌else◌, slice_get}
use Rattle.std.specs.Option.{option_map_or}
use Rattle.spdx_requirement.specs.Rows.{LicenseRow, ImpreciseRow}
use Rattle.spdx_catalogue.specs.declared.error.CatalogueError.{CatalogueError}
use Rattle.spdx_catalogue.specs.RowRules.{RowRule, imprecise_row_rules}

-- the fault of the first rule that is broken, if one is
abbrev pub first_broken : List RowRule → Option CatalogueError
first_broken [] = None
first_broken (r ∷ rs) = if r.0 then Some r.1 else first_broken rs

-- what f gives of each number below n, in turn
abbrev pub all_below : {A : Type 0} → (ℕ → List A) → ℕ → List A
all_below f zero = []
all_below f (suc n) = all_below f n ++ f n

-- the row before
abbrev pub before : {A : Type 0} → List A → ℕ → Option A
before xs zero = None
before xs (suc i) = slice_get xs i

-- the rules of the row at that place
abbrev pub rules_at : {A : Type 0} → (A → List ℕ) → (Option (List ℕ) → ℕ → A → List RowRule) →
    List A → ℕ → List RowRule
rules_at name rules rows row =
    option_map_or (rules (option_map name (before rows row)) row) (slice_get rows row) []

-- those of the other spelling of that row
abbrev pub imprecise_rules : List LicenseRow → List ImpreciseRow → ℕ → List RowRule
imprecise_rules licenses rows row =
    option_map_or (imprecise_row_rules licenses row) (slice_get rows row) []
