-- What `list make` reads, and what it writes of it.
use Rattle.std.specs.Prelude.{◌≡◌, ℕ, List, [], ◌∷◌, ◌++◌, Option, Some, None, Ok, Err, string_bytes}
use Rattle.std.specs.Io.KnownBytes.{Appends}
use Rattle.line_engine.specs.Progress.{AppendsBeginning}
use Rattle.spdx_list.specs.declared.error.ListFault.{ListFault}
use Rattle.spdx_list.specs.Files.{ExtraRows, extras_in}
use Rattle.spdx_list.specs.Made.{IsTextOf, IsRefused}
use Rattle.shelves.specs.Shelf.{Shelved, to_read}
use Rattle.list_program.specs.declared.trouble.ListTrouble.{ListTrouble}
use Rattle.list_program.specs.declared.trouble.ListTrouble.TheVariants as trouble
use Rattle.list_program.specs.Named.{no_extras}

-- the paths of the files that a list is made of
pub record MadePaths : Type 0 where
  pub licenses : List ℕ
  pub exceptions : List ℕ
  pub extras : Option (List ℕ)

abbrev pub made_of : List ℕ → List ℕ → Option (List ℕ) → MadePaths
made_of licenses exceptions extras =
    record { licenses = licenses; exceptions = exceptions; extras = extras }

-- the extras of the file at the path, if one is given
abbrev pub AreExtrasAt : Shelved → Option (List ℕ) → ExtraRows → Type 0
AreExtrasAt s None rows = rows ≡ no_extras
AreExtrasAt s (Some path) rows =
    (bytes : List ℕ) × s.Holds path bytes × (extras_in bytes ≡ Ok rows)

-- what the files at these paths hold
pub record AreRead (s : Shelved) (paths : MadePaths) (licenses exceptions : List ℕ)
    (extras : ExtraRows) : Type 0 where
  pub holds_licenses : s.Holds paths.licenses licenses
  pub holds_exceptions : s.Holds paths.exceptions exceptions
  pub holds_extras : AreExtrasAt s paths.extras extras

-- the text is that of the list that the files at these paths make
abbrev pub IsMadeText : Shelved → MadePaths → List ℕ → Type 0
IsMadeText s paths text =
    (licenses : List ℕ) × (exceptions : List ℕ) × (extras : ExtraRows) ×
    AreRead s paths licenses exceptions extras × IsTextOf licenses exceptions extras text

-- that text was written, and a newline
abbrev pub WritesList : Shelved → MadePaths → Option (List ℕ) → Option (List ℕ) → Type 0
WritesList s paths old new =
    (text : List ℕ) × IsMadeText s paths text × Appends old new (text ++ 10 ∷ [])

-- one of these files
pub data IsOneOf (paths : MadePaths) : List ℕ → Type 0 where
  of_licenses : IsOneOf paths paths.licenses
  of_exceptions : IsOneOf paths paths.exceptions
  of_extras : {path : List ℕ} → paths.extras ≡ Some path → IsOneOf paths path

-- the extras are none, or the files make no list, which is told of the first of them
pub data IsNoListOf (s : Shelved) (paths : MadePaths) : List ℕ → ListFault → Type 0 where
  bad_extras : {path : List ℕ} {f : ListFault} (bytes : List ℕ) → paths.extras ≡ Some path →
      s.Holds path bytes → extras_in bytes ≡ Err f → IsNoListOf s paths path f
  bad_files : {f : ListFault} (licenses exceptions : List ℕ) (extras : ExtraRows) →
      AreRead s paths licenses exceptions extras → IsRefused licenses exceptions extras f →
      IsNoListOf s paths paths.licenses f

-- why the files make no text; nothing is said of memory
abbrev pub IsNoText : Shelved → MadePaths → ListTrouble → Type 0
IsNoText s paths (trouble.Unreadable n e) =
    IsOneOf paths (string_bytes n) × s.Fails to_read (string_bytes n) e
IsNoText s paths (trouble.NotMade n f) = IsNoListOf s paths (string_bytes n) f
IsNoText s paths trouble.Memory = Unit {0}
IsNoText s paths t = ⊥

-- why no list was written: the output took no more than a beginning of it; else nothing was written
abbrev pub IsUnwritten : Shelved → MadePaths → Option (List ℕ) → Option (List ℕ) → ListTrouble →
    Type 0
IsUnwritten s paths old new trouble.Output =
    (text : List ℕ) × IsMadeText s paths text × AppendsBeginning old new (text ++ 10 ∷ [])
IsUnwritten s paths old new t = (new ≡ old) × IsNoText s paths t
