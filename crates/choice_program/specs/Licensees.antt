-- The licensees of a list with commas between them.
use Rattle.std.specs.Prelude.{◌≡◌, ◌==◌, ℕ, List, ◌∷◌, ◌++◌, map, string_bytes}
use Rattle.std.specs.Borrow.{Bor}
use Rattle.std.specs.List.{AllZip, slice_split}
use Rattle.std.specs.Str.{trim}
use Rattle.spdx_requirement.specs.Items.{Requirement}
use Rattle.spdx_requirement.specs.Rows.{Rows}
use Rattle.spdx_lexer.specs.Faults.{fault_of}
use Rattle.spdx_lexer.specs.Words.{Fault, Span}
use Rattle.spdx_licensee.specs.LicenseeText.{IsLicenseeFault, Names}
use Rattle.choice_program.specs.declared.choosing.ChoiceTrouble.{ChoiceTrouble}
use Rattle.choice_program.specs.declared.choosing.ChoiceTrouble.TheVariants as trouble

-- what stands between the commas, without the blanks about it
abbrev pub names_in : List ℕ → List (List ℕ)
names_in list = map trim (slice_split (λ b. b == 44) list)

abbrev pub name_in : Bor (List ℕ) → List ℕ
name_in name = trim name.now

-- the name is no licensee's, by this fault; nothing is said of memory
abbrev pub IsNotNamed : Rows → List ℕ → ChoiceTrouble → Type 0
IsNotNamed c name (trouble.NoLicensee n r) =
    (string_bytes n ≡ name) × (span : Span) × IsLicenseeFault c name (fault_of r) span
IsNotNamed c name trouble.Memory = Unit {0}
IsNotNamed c name t = ⊥

-- some name is no licensee's, and each before it is one's
pub record IsFirstUnnamed (c : Rows) (names : List (List ℕ)) (name : List ℕ) (f : Fault) :
    Type 0 where
  pub before : List (List ℕ)
  pub after : List (List ℕ)
  pub licensees : List Requirement
  pub span : Span
  pub stands : names ≡ before ++ name ∷ after
  pub accepted : AllZip (Names c) before licensees
  pub refused : IsLicenseeFault c name f span

abbrev pub IsNoLicensee : Rows → List (List ℕ) → ChoiceTrouble → Type 0
IsNoLicensee c names (trouble.NoLicensee n r) = IsFirstUnnamed c names (string_bytes n) (fault_of r)
IsNoLicensee c names trouble.Memory = Unit {0}
IsNoLicensee c names t = ⊥
