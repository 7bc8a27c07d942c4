-- Which rows a catalogue may have: a table of the rules in their order, and the first that is
-- broken.
use Rattle.std.specs.Prelude.{ℕ, suc, Bool, not, ◌&&◌, ◌==◌, List, [], ◌∷◌, ◌++◌, length, Option, Some, None, is_none, is_some, option_map, find}
use Rattle.spdx_requirement.specs.Rows.{Rows, LicenseRow, ExceptionRow, ImpreciseRow}
use Rattle.spdx_catalogue.specs.LookUps.{listed}
use Rattle.spdx_requirement.specs.Flags.{is_gnu}
use Rattle.spdx_catalogue.specs.declared.error.List as kind
use Rattle.spdx_catalogue.specs.declared.error.List.TheVariants.{Licenses, Exceptions}
use Rattle.spdx_catalogue.specs.declared.error.CatalogueError.{CatalogueError}
use Rattle.spdx_catalogue.specs.declared.error.CatalogueError.TheVariants.{BadName, OperatorName, NotAscending, BadIndex, TwoSuffixes, EmptyPrefix, UnlistedTarget}
use Rattle.spdx_catalogue.specs.Names.{is_name, is_operator, is_above, has_two_suffixes}

-- whether a rule is broken, and the fault that says so
abbrev pub RowRule : Type 0
RowRule = Bool × CatalogueError

-- the rules of a name: its bytes, that it is no operator, that it is above the one before, and its
-- index
abbrev pub name_rules : kind.List → List ℕ → Option (List ℕ) → ℕ → ℕ → List RowRule
name_rules list name previous index row =
    (not (is_name name), BadName list row)
    ∷ (is_operator name, OperatorName list row)
    ∷ (not (is_above previous name), NotAscending list row)
    ∷ (not (index == row), BadIndex list row) ∷ []

-- those of a licence, whose GNU name has no two endings
abbrev pub license_row_rules : Option (List ℕ) → ℕ → LicenseRow → List RowRule
license_row_rules previous row r =
    name_rules Licenses r.name previous r.index row ++
    (is_gnu r.flags && has_two_suffixes r.name, TwoSuffixes row) ∷ []

-- those of an exception
abbrev pub exception_row_rules : Option (List ℕ) → ℕ → ExceptionRow → List RowRule
exception_row_rules previous row r = name_rules Exceptions r.name previous r.index row

-- those of another spelling: it is not empty, and its target is listed
abbrev pub imprecise_row_rules : List LicenseRow → ℕ → ImpreciseRow → List RowRule
imprecise_row_rules licenses row r =
    (length r.prefix == 0, EmptyPrefix row) ∷
    (not (is_some (listed licenses r.name)), UnlistedTarget row) ∷ []

-- those of all rows of a list, whose first stands at a place and behind another row, if there is
-- one
abbrev pub rules_from : {A : Type 0} → (Option A → ℕ → A → List RowRule) → Option A → ℕ → List A →
    List RowRule
rules_from rules before row [] = []
rules_from rules before row (r ∷ rs) = rules before row r ++ rules_from rules (Some r) (suc row) rs

-- every rule of every row, in their order
abbrev pub rules_of : Rows → List RowRule
rules_of c =
    rules_from (λ before. license_row_rules (option_map (λ (r : LicenseRow). r.name) before)) None 0
    c.licenses
    ++ (rules_from (λ before.
    exception_row_rules (option_map (λ (r : ExceptionRow). r.name) before)) None 0 c.exceptions
    ++ rules_from (λ before. imprecise_row_rules c.licenses) None 0 c.imprecise)

-- the fault of the first that is broken, by list, then row, then rule
abbrev pub first_fault : Rows → Option CatalogueError
first_fault c = option_map (λ (r : RowRule). r.1) (find (λ (r : RowRule). r.0) (rules_of c))

-- no rule is broken
abbrev pub is_well_formed : Rows → Bool
is_well_formed c = is_none (first_fault c)
