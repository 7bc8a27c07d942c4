-- What is passed over.
use Rattle.std.specs.Prelude.{◌≡◌, ℕ, Bool, true, false, List, [], ◌∷◌, String, string_bytes}
use Rattle.std.specs.IoError.{error_kind}
use Rattle.std.specs.declared.alloc.Global.{Global}
use Rattle.std.specs.declared.io.Error.{Error}
use Rattle.std.specs.declared.io.ErrorKind.{ErrorKind}
use Rattle.std.specs.declared.io.ErrorKind.TheVariants as kind
use Rattle.check_files.specs.declared.trouble.CheckTrouble.{CheckTrouble}
use Rattle.check_files.specs.declared.trouble.CheckTrouble.TheVariants as trouble
use Rattle.check_files.specs.Tally.{Tally, passed_over}
use Rattle.check_files.specs.Told.{Account, Hears}

abbrev pub is_no_memory : ErrorKind → Bool
is_no_memory kind.OutOfMemory = true
is_no_memory _ = false

abbrev pub refuses_memory : Error → Bool
refuses_memory e = is_no_memory (error_kind e)

abbrev pub is_no_entry : ErrorKind → Bool
is_no_entry kind.NotFound = true
is_no_entry _ = false

-- nothing is there
abbrev pub is_not_found : Error → Bool
is_not_found e = is_no_entry (error_kind e)

-- it can't be read for want of memory
abbrev pub is_of_memory : CheckTrouble → Bool
is_of_memory (trouble.Unreadable n e) = refuses_memory e
is_of_memory _ = false

-- this one trouble is told, which isn't of memory, and the status says so
pub record PassesOver (t : CheckTrouble) (heard heard' : Account CheckTrouble)
    (old new : Tally) : Type 0 where
  pub tells : Hears heard heard' (t ∷ [])
  pub counts : new ≡ passed_over old
  pub has_memory : is_of_memory t ≡ false

-- ---- what is passed over, as the shelf tells

-- what can't be read is told by this name and passed over, and not for want of memory; nothing is
-- written of it
pub record IsPassed (name : List ℕ) (Fails : Error → Type 0) (old : Tally) (text : List ℕ)
    (told : List CheckTrouble) (new : Tally) : Type 0 where
  pub path : String Global
  pub error : Error
  pub path_is : string_bytes path ≡ name
  pub fails : Fails error
  pub has_memory : refuses_memory error ≡ false
  pub text_is : text ≡ []
  pub told_is : told ≡ trouble.Unreadable path error ∷ []
  pub new_is : new ≡ passed_over old
