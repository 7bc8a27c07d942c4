-- Texts that aren't had.
use Rattle.std.specs.Prelude.{◌≡◌, ℕ, Bool, true, false, List, string_bytes}
use Rattle.std.specs.IoError.{error_kind}
use Rattle.std.specs.declared.io.Error.{Error}
use Rattle.std.specs.declared.io.ErrorKind.{ErrorKind}
use Rattle.std.specs.declared.io.ErrorKind.TheVariants as kind
use Rattle.owed_texts.specs.declared.trouble.Obstacle.{Obstacle}
use Rattle.owed_texts.specs.declared.trouble.Obstacle.TheVariants as obstacle
use Rattle.owed_texts.specs.declared.trouble.TextTrouble.{TextTrouble}

abbrev pub refuses_memory : ErrorKind → Bool
refuses_memory kind.OutOfMemory = true
refuses_memory _ = false

abbrev pub finds_nothing : ErrorKind → Bool
finds_nothing kind.NotFound = true
finds_nothing _ = false

abbrev pub is_of_memory : Error → Bool
is_of_memory e = refuses_memory (error_kind e)

-- nothing is there
abbrev pub is_not_found : Error → Bool
is_not_found e = finds_nothing (error_kind e)

-- it is told by that name, of that path, for such an obstacle
pub record IsTold (name path : List ℕ) (IsWhy : Obstacle → Type 0) (t : TextTrouble) :
    Type 0 where
  pub name_is : string_bytes t.name ≡ name
  pub path_is : string_bytes t.path ≡ path
  pub why_is : IsWhy t.why

abbrev pub IsOf : List ℕ → List ℕ → Obstacle → TextTrouble → Type 0
IsOf name path why t = IsTold name path (λ w. w ≡ why) t

-- the error isn't one of memory
abbrev pub IsError : Error → Obstacle → Type 0
IsError e (obstacle.Unreadable f) = (f ≡ e) × (is_of_memory e ≡ false)
IsError e w = ⊥

abbrev pub IsUnreadable : List ℕ → List ℕ → Error → TextTrouble → Type 0
IsUnreadable name path e t = IsTold name path (IsError e) t
