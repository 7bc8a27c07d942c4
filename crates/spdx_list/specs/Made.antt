-- The list that files make: their rows, put in order.
use Rattle.std.specs.Prelude.{◌≡◌, ℕ, ◌⊎◌, List, Some, Ok, Err, option_map}
use Rattle.std.specs.Ordering.{nat_cmp}
use Rattle.std.specs.Cmp.Lexicographic.{slice_cmp}
use Rattle.std.specs.List.Sorted.{IsPermutation, IsSortedByKey}
use Rattle.spdx_requirement.specs.Rows.{Rows, license_name, exception_name}
use Rattle.spdx_tables.specs.Places.{license_at, exception_at, numbered}
use Rattle.spdx_catalogue.specs.RowRules.{first_fault}
use Rattle.spdx_catalogue.specs.Reading.{catalogue_in}
use Rattle.spdx_list.specs.declared.error.ListFault.{ListFault}
use Rattle.spdx_list.specs.declared.error.ListFault.TheVariants as fault
use Rattle.spdx_list.specs.Files.{ExtraRows, gathered}
use Rattle.spdx_tables.specs.TableReading.{date_in}
use Rattle.spdx_list.specs.Dates.{released_in}
use Rattle.spdx_list.specs.Forms.{with_forms}

-- the same rows, rearranged so that no name is less, by bytes, than the one before; each with its
-- place
pub record Arranges {A : Type 0} (name_of : A → List ℕ) (place : ℕ → A → A)
    (rows arranged : List A) : Type 0 where
  pub ordered : List A
  pub same : IsPermutation rows ordered
  pub ascends : IsSortedByKey name_of (slice_cmp nat_cmp) ordered
  pub places : arranged ≡ numbered place 0 ordered

-- the version as it is, the licences and exceptions in order, the full names before the imprecise
-- names, their forms behind
pub record IsInOrder (rows made : Rows) : Type 0 where
  pub version : made.version ≡ rows.version
  pub licenses : Arranges license_name license_at rows.licenses made.licenses
  pub exceptions : Arranges exception_name exception_at rows.exceptions made.exceptions
  pub imprecise : made.imprecise ≡ with_forms made.licenses made.exceptions rows.imprecise

-- the files make these rows
abbrev pub Makes : List ℕ → List ℕ → ExtraRows → Rows → Type 0
Makes licenses exceptions extras made =
    (rows : Rows) × (gathered licenses exceptions extras ≡ Ok rows) × IsInOrder rows made

-- the files have this fault, or the rows that they make break this rule of a catalogue first
abbrev pub IsRefused : List ℕ → List ℕ → ExtraRows → ListFault → Type 0
IsRefused licenses exceptions extras f =
    (gathered licenses exceptions extras ≡ Err f)
    ⊎ ((made : Rows) × Makes licenses exceptions extras made ×
    (option_map fault.Catalogue (first_fault made) ≡ Some f))

-- the text reads back as the rows that the files make, and has the date that they tell
abbrev pub IsTextOf : List ℕ → List ℕ → ExtraRows → List ℕ → Type 0
IsTextOf licenses exceptions extras text =
    (made : Rows) × Makes licenses exceptions extras made × (catalogue_in text ≡ Ok made) ×
    (date_in text ≡ released_in licenses)
