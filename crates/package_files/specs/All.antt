-- The packages of several files.
use Rattle.std.specs.Prelude.{◌≡◌, ℕ, Bool, true, false, List, [], ◌∷◌, ◌++◌}
use Rattle.std.specs.Borrow.{Bor}
use Rattle.std.specs.IoError.{error_kind}
use Rattle.std.specs.declared.io.ErrorKind.{ErrorKind}
use Rattle.std.specs.declared.io.ErrorKind.TheVariants as kind
use Rattle.shelves.specs.Shelf.{Shelved}
use Rattle.package_files.specs.declared.all.AllListed.{AllListed}
use Rattle.package_files.specs.declared.fault.FileFault.{FileFault}
use Rattle.package_files.specs.declared.fault.FileFault.TheVariants as fault
use Rattle.package_files.specs.declared.listed.Listed.{Listed}
use Rattle.package_files.specs.declared.listed.Wanted.{Wanted}
use Rattle.package_files.specs.Faults.{IsNotListed}
use Rattle.package_files.specs.Listed.{IsListedAt}

abbrev pub path_in : Bor (List ℕ) → List ℕ
path_in path = path.now

abbrev pub refuses_memory : ErrorKind → Bool
refuses_memory kind.OutOfMemory = true
refuses_memory _ = false

-- memory was refused, by the system or within
abbrev pub is_of_memory : FileFault → Bool
is_of_memory (fault.Unreadable n e) = refuses_memory (error_kind e)
is_of_memory (fault.Source n f) = false
is_of_memory (fault.Empty n) = false
is_of_memory fault.Memory = true

-- the files at these paths, in their order: each lists its packages, or is left out for its fault
pub data AreListed (s : Shelved) (w : Wanted) :
    List (List ℕ) → List Listed → List FileFault → Type 0 where
  none : AreListed s w [] [] []
  listed : {path : List ℕ} {file : Listed} {paths : List (List ℕ)} {files : List Listed}
      {left_out : List FileFault} → IsListedAt s w path file → AreListed s w paths files left_out →
      AreListed s w (path ∷ paths) (file ∷ files) left_out
  left : {path : List ℕ} {f : FileFault} {paths : List (List ℕ)} {files : List Listed}
      {left_out : List FileFault} → IsNotListed s w path f → is_of_memory f ≡ false →
      AreListed s w paths files left_out →
      AreListed s w (path ∷ paths) files (f ∷ left_out)

-- the fault of one more file that is left out; memory was none
pub record LeavesOut (f : FileFault) (old new : AllListed) : Type 0 where
  pub no_memory : is_of_memory f ≡ false
  pub files_are : new.files.items ≡ old.files.items
  pub left_out_are : new.left_out.items ≡ old.left_out.items ++ f ∷ []

-- the file at one more path
pub data IsOneMore (s : Shelved) (w : Wanted) (path : List ℕ) (old new : AllListed) :
    Type 0 where
  is_listed : (file : Listed) → IsListedAt s w path file →
      new.files.items ≡ old.files.items ++ file ∷ [] →
      new.left_out.items ≡ old.left_out.items → IsOneMore s w path old new
  is_left : (f : FileFault) → IsNotListed s w path f → LeavesOut f old new →
      IsOneMore s w path old new
