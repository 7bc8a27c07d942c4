-- What `list diff` writes.
use Rattle.std.specs.Prelude.{◌≡◌, ◌⊎◌, ℕ, Bool, List, [], ◌∷◌, ◌++◌, Ok, codes, flat_map}
use Rattle.std.specs.Option.{option_copied}
use Rattle.shelves.specs.Shelf.{Shelved}
use Rattle.spdx_requirement.specs.Rows.{ExceptionRow, LicenseRow, Rows, exception_name, license_name}
use Rattle.spdx_list.specs.Diff.{TellsEach, changes, is_same_exception, is_same_license, only_here}
use Rattle.spdx_list.specs.Files.{ExtraRows, extras_in}
use Rattle.list_program.specs.declared.trouble.ListTrouble.{ListTrouble}
use Rattle.list_program.specs.Named.{InsideBytes, IsListAt, IsNamedList}
use Rattle.list_program.specs.Troubles.{AreNoExtras, IsNoListAt, IsNoNamedList}
use Rattle.list_told.specs.declared.differing.Lists.{Lists}
use Rattle.list_told.specs.Changes.{IsExceptionChange, IsLicenseChange, added_exception, added_license, removed_line}
use Rattle.list_told.specs.Texts.{AreTexts, line}

unfoldable pub head_line : List ℕ → List ℕ → List ℕ
head_line old new = line (codes "SPDX license list " ∷ old ∷ codes " to " ∷ new ∷ [])

-- the lines of the rows that came, of those that went, and of those that changed
pub record AreTold {A : Type 0} (name_of : A → List ℕ) (added_line : A → List ℕ)
    (IsChange : A × A → List ℕ → Type 0) (added removed : List A) (changed : List (A × A))
    (text : List ℕ) : Type 0 where
  pub rest : List ℕ
  pub changes_are : AreTexts IsChange changed rest
  pub text_is :
      text ≡ flat_map added_line added ++ (flat_map (λ r. removed_line (name_of r)) removed ++ rest)

abbrev pub AreLicensesTold : Rows → ExtraRows → List LicenseRow → List LicenseRow →
    List (LicenseRow × LicenseRow) → List ℕ → Type 0
AreLicensesTold c x added removed changed text =
    AreTold license_name added_license (IsLicenseChange c x) added removed changed text

abbrev pub AreExceptionsTold : Rows → ExtraRows → List ExceptionRow → List ExceptionRow →
    List (ExceptionRow × ExceptionRow) → List ℕ → Type 0
AreExceptionsTold c x added removed changed text =
    AreTold exception_name added_exception (IsExceptionChange c x) added removed changed text

-- the lines of all licences, and of all exceptions, in which the newer list differs
abbrev pub IsLicenseDiff : Rows → Rows → ExtraRows → List ℕ → Type 0
IsLicenseDiff old new x text =
    AreLicensesTold new x (only_here license_name new.licenses old.licenses)
    (only_here license_name old.licenses new.licenses)
    (changes license_name is_same_license old.licenses new.licenses) text

abbrev pub IsExceptionDiff : Rows → Rows → ExtraRows → List ℕ → Type 0
IsExceptionDiff old new x text =
    AreExceptionsTold new x (only_here exception_name new.exceptions old.exceptions)
    (only_here exception_name old.exceptions new.exceptions)
    (changes exception_name is_same_exception old.exceptions new.exceptions) text

-- both versions, and these lines
pub record IsDiffOf (old new : Rows) (x : ExtraRows) (text : List ℕ) : Type 0 where
  pub licenses : List ℕ
  pub exceptions : List ℕ
  pub licenses_are : IsLicenseDiff old new x licenses
  pub exceptions_are : IsExceptionDiff old new x exceptions
  pub text_is : text ≡ head_line old.version new.version ++ (licenses ++ exceptions)

-- both lists, the older one by its name or else the one that is used
pub record AreLists (s : Shelved) (inside : InsideBytes) (a : Lists) (old new : Rows) : Type 0 where
  pub old_is : IsNamedList s inside (option_copied a.old) old
  pub new_is : IsListAt s inside.extras a.new.now new

-- with what the replacements say
abbrev pub IsDiffBy : List ℕ → Rows → Rows → List ℕ → Type 0
IsDiffBy replacements old new text =
    (x : ExtraRows) × (extras_in replacements ≡ Ok x) × IsDiffOf old new x text

pub record IsDiff (s : Shelved) (inside : InsideBytes) (replacements : List ℕ) (a : Lists)
    (text : List ℕ) : Type 0 where
  pub old : Rows
  pub new : Rows
  pub lists : AreLists s inside a old new
  pub diff_is : IsDiffBy replacements old new text

-- why nothing is told: a list isn't had, the older one first, or the replacements aren't readable
abbrev pub IsNoDiff : Shelved → InsideBytes → List ℕ → Lists → ListTrouble → Type 0
IsNoDiff s inside replacements a t =
    IsNoNamedList s inside (option_copied a.old) t
    ⊎ (((old : Rows) × IsNamedList s inside (option_copied a.old) old
    × IsNoListAt s inside.extras a.new.now t)
    ⊎ ((old : Rows) × (new : Rows) × AreLists s inside a old new × AreNoExtras replacements t))

-- ---- laws

-- rows have lines exactly if only the newer list has their name, only the older one has it, or both
-- have it and say something else
pub record AreEachTold {A : Type 0} (name_of : A → List ℕ) (is_same : A → A → Bool)
    (Told : List A → List A → List (A × A) → List ℕ → Type 0) (olds news : List A)
    (text : List ℕ) : Type 0 where
  pub added : List A
  pub removed : List A
  pub changed : List (A × A)
  pub each : TellsEach name_of is_same olds news added removed changed
  pub told : Told added removed changed text

pub record TellsEachRow (s : Shelved) (inside : InsideBytes) (a : Lists) (text : List ℕ) :
    Type 0 where
  pub old : Rows
  pub new : Rows
  pub extras : ExtraRows
  pub licenses : List ℕ
  pub exceptions : List ℕ
  pub lists : AreLists s inside a old new
  pub licenses_are :
      AreEachTold license_name is_same_license (AreLicensesTold new extras) old.licenses new.licenses
      licenses
  pub exceptions_are :
      AreEachTold exception_name is_same_exception (AreExceptionsTold new extras) old.exceptions
      new.exceptions exceptions
  pub text_is : text ≡ head_line old.version new.version ++ (licenses ++ exceptions)

-- of lists with the same rows their versions alone are told
pub record TellsSame (s : Shelved) (inside : InsideBytes) (a : Lists) (text : List ℕ) :
    Type 0 where
  pub old : Rows
  pub new : Rows
  pub lists : AreLists s inside a old new
  pub same : old.licenses ≡ new.licenses → old.exceptions ≡ new.exceptions →
      text ≡ head_line old.version new.version
