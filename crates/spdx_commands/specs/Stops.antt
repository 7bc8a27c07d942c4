-- Why a command stops or breaks off.
use Rattle.std.specs.Prelude.{◌≡◌, ℕ, List}
use Rattle.check_files.specs.Told.{Account}
use Rattle.line_engine.specs.Device.{Told}
use Rattle.spdx_commands.specs.Said.{BreaksOff}
use Rattle.spdx_troubles.specs.declared.trouble.Trouble.{Trouble}
use Rattle.spdx_troubles.specs.declared.trouble.Trouble.TheVariants as trouble

-- with which trouble a command stops that else writes and tells what is said here: that of a cause
-- of which this holds, or want of memory, and nothing was written or told; or it breaks off, and
-- what was written and told is a beginning of that
pub data IsStopped {Cause : Type 0} (trouble_of : Cause → Trouble) (Is : Cause → Type 0)
    (Says : List ℕ → List Trouble → Type 0) (out out' : Told) (heard heard' : Account Trouble) :
    Trouble → Type 0 where
  caused : (cause : Cause) → Is cause → out'.bytes ≡ out.bytes → heard' ≡ heard →
      IsStopped trouble_of Is Says out out' heard heard' (trouble_of cause)
  unbegun : out'.bytes ≡ out.bytes → heard' ≡ heard →
      IsStopped trouble_of Is Says out out' heard heard' trouble.Memory
  broken : (text : List ℕ) (told : List Trouble) (t : Trouble) → Says text told →
      BreaksOff out out' heard heard' text told t →
      IsStopped trouble_of Is Says out out' heard heard' t
