-- Why a command stops or breaks off.
use Rattle.std.proofs.Common.{◌≡◌, ℕ, true, List, [], refl}
use Rattle.std.specs.Prelude.{Result, IfErr, IsErrAnd}
use Rattle.check_files.specs.Told.{Account, unkept}
use Rattle.line_engine.specs.Device.{Told}
use Rattle.line_engine.specs.Progress.{AppendsBeginning}
use Rattle.spdx_commands.specs.Said.{BreaksOff}
use Rattle.spdx_commands.specs.Stops.{IsStopped, broken, caused, unbegun}
use Rattle.spdx_commands.proofs.Saying.{broken_by}
use Rattle.spdx_troubles.specs.declared.trouble.Trouble.{Trouble}
use Rattle.spdx_troubles.specs.declared.trouble.Trouble.TheVariants as trouble

module _ {T Cause : Type 0} (trouble_of : Cause → Trouble) (Is : Cause → Type 0) (Says : List ℕ → List Trouble → Type 0) (out : Told) (heard : Account Trouble) where
  -- by a cause, before anything is said
  pub stopped : (cause : Cause) → Is cause → (r : Result T Trouble) → IsErrAnd r (λ t. t ≡ trouble_of cause) → IfErr r (IsStopped trouble_of Is Says out out heard heard)
  stopped cause is r h = broken_by (IsStopped trouble_of Is Says out out heard heard) (trouble_of cause) (caused cause is refl refl) r h

  -- for want of memory, before anything is said
  pub refused : (r : Result T Trouble) → IsErrAnd r (λ t. t ≡ trouble.Memory) → IfErr r (IsStopped trouble_of Is Says out out heard heard)
  refused r h = broken_by (IsStopped trouble_of Is Says out out heard heard) trouble.Memory (unbegun refl refl) r h

  -- as what is said breaks off
  pub said_off : (out' : Told) (heard' : Account Trouble) (text : List ℕ) (told : List Trouble) → Says text told → (t : Trouble) → BreaksOff out out' heard heard' text told t
      → (r : Result T Trouble) → IsErrAnd r (λ u. u ≡ t) → IfErr r (IsStopped trouble_of Is Says out out' heard heard')
  said_off out' heard' text told says t off r h = broken_by (IsStopped trouble_of Is Says out out' heard heard') t (broken text told t says off) r h

-- as the text can't be written of a command that tells nothing
pub unwritten : {T Cause : Type 0} (trouble_of : Cause → Trouble) (Is : Cause → Type 0) (Says : List ℕ → List Trouble → Type 0) (out out' : Told) (text : List ℕ) → Says text []
    → AppendsBeginning out.bytes out'.bytes text → out'.has_failed ≡ true → (r : Result T Trouble) → IsErrAnd r (λ t. t ≡ trouble.Output) → IfErr r (IsStopped trouble_of Is Says out out' unkept unkept)
unwritten trouble_of Is Says out out' text says begun failed r h =
    said_off trouble_of Is Says out unkept out' unkept text [] says trouble.Output
    (record { broken = failed; begins = record { written = begun; told_first = record { begun = []; others = []; whole = refl; told_first = tt } } }) r h
