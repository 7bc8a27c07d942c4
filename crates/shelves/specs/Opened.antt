-- What a file gives that is read piece by piece.
use Rattle.std.specs.Prelude.{◌≡◌, ℕ, List, Option, Some, None}
use Rattle.line_engine.specs.Device.{Told}

-- a device that tells its bytes has these; one that tells none may have any
abbrev pub MayHave : Option (List ℕ) → List ℕ → Type 0
MayHave None bytes = Unit {0}
MayHave (Some all) bytes = all ≡ bytes

-- whatever bytes it has, what holds them is said to hold
abbrev pub Gives : Told → (List ℕ → Type 0) → Type 0
Gives t Holds = (bytes : List ℕ) → MayHave t.bytes bytes → Holds bytes
