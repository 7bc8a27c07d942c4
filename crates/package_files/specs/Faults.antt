-- Why the packages of a file aren't had. Nothing is said of memory.
use Rattle.std.specs.Prelude.{◌≡◌, ℕ, Bool, true, false, List, [], Option, Ok, Err, string_bytes}
use Rattle.std.specs.declared.io.Error.{Error}
use Rattle.package_items.specs.Rows.{fault_of}
use Rattle.package_sources.specs.declared.form.Form.{Form}
use Rattle.shelves.specs.AtPath.{FailsAt, IsContent, told_path}
use Rattle.shelves.specs.Shelf.{Shelved, to_read}
use Rattle.package_files.specs.declared.fault.FileFault.{FileFault}
use Rattle.package_files.specs.declared.fault.FileFault.TheVariants as fault
use Rattle.package_files.specs.declared.listed.Listed.{Listed}
use Rattle.package_files.specs.declared.listed.Source.{Source}
use Rattle.package_files.specs.declared.listed.Wanted.{Wanted}
use Rattle.package_files.specs.Listed.{read_before}
use Rattle.package_files.specs.Reading.{read}

-- it can't be read by such an error, and is told so
abbrev pub IsUnreadAs : List ℕ → (Error → Type 0) → FileFault → Type 0
IsUnreadAs told Fails (fault.Unreadable n e) = (string_bytes n ≡ told) × Fails e
IsUnreadAs told Fails fault.Memory = Unit {0}
IsUnreadAs told Fails f = ⊥

-- the file at the path, or standard input, can't be read
abbrev pub IsUnread : Shelved → List ℕ → FileFault → Type 0
IsUnread s path f = IsUnreadAs (told_path path) (FailsAt s path) f

-- these bytes aren't of their form
abbrev pub IsNotRead : Source → List ℕ → List ℕ → FileFault → Type 0
IsNotRead how path bytes (fault.Source n f) =
    (string_bytes n ≡ path) × (read how path bytes ≡ Err (fault_of f))
IsNotRead how path bytes fault.Memory = Unit {0}
IsNotRead how path bytes f = ⊥

-- these packages are none, and that doesn't pass
abbrev pub IsEmptyOf : Wanted → Listed → FileFault → Type 0
IsEmptyOf w listed (fault.Empty n) =
    (n ≡ listed.path) × (w.allow_empty ≡ false) × (listed.packages.items ≡ [])
IsEmptyOf w listed f = ⊥

-- it lists no package, and that doesn't pass
pub record IsEmpty (s : Shelved) (w : Wanted) (path : List ℕ) : Type 0 where
  pub bytes : List ℕ
  pub guessed : Option Form
  pub wanted : w.allow_empty ≡ false
  pub content : IsContent s path bytes
  pub reads : read w.source (told_path path) bytes ≡ Ok (guessed, [])

abbrev pub IsNotListed : Shelved → Wanted → List ℕ → FileFault → Type 0
IsNotListed s w path (fault.Unreadable n e) =
    (string_bytes n ≡ told_path path) × FailsAt s path e
IsNotListed s w path (fault.Source n f) =
    (bytes : List ℕ) × IsContent s path bytes × (string_bytes n ≡ told_path path) ×
    (read w.source (told_path path) bytes ≡ Err (fault_of f))
IsNotListed s w path (fault.Empty n) =
    (string_bytes n ≡ told_path path) × IsEmpty s w path
IsNotListed s w path fault.Memory = Unit {0}

-- ---- a baseline

abbrev pub IsNotEarlier : Source → List ℕ → List ℕ → FileFault → Type 0
IsNotEarlier how path bytes (fault.Source n f) =
    (string_bytes n ≡ path) × (read_before how path bytes ≡ Err (fault_of f))
IsNotEarlier how path bytes fault.Memory = Unit {0}
IsNotEarlier how path bytes f = ⊥

abbrev pub IsNotListedBefore : Shelved → Source → List ℕ → FileFault → Type 0
IsNotListedBefore s how path (fault.Unreadable n e) =
    (string_bytes n ≡ path) × s.Fails to_read path e
IsNotListedBefore s how path (fault.Source n f) =
    (bytes : List ℕ) × s.Holds path bytes × (string_bytes n ≡ path) ×
    (read_before how path bytes ≡ Err (fault_of f))
IsNotListedBefore s how path fault.Memory = Unit {0}
IsNotListedBefore s how path f = ⊥
