-- What a device tells of itself, and what a read does to the number of bytes that may still come.
use Rattle.std.specs.Prelude.{◌≡◌, ℕ, ◌+◌, Bool, Option, List, Result, MatchResult}

-- the bytes that are still to come, or those that were taken, where the device tells them; and
-- whether it has failed
pub record Told : Type 0 where
  pub bytes : Option (List ℕ)
  pub has_failed : Bool

abbrev pub told : Option (List ℕ) → Bool → Told
told bytes has_failed = record { bytes = bytes; has_failed = has_failed }

-- what the input and the output of a run tell, before and after it
pub record Devices : Type 0 where
  pub input : Told
  pub input' : Told
  pub output : Told
  pub output' : Told

abbrev pub devices : Told → Told → Told → Told → Devices
devices input input' output output' =
    record { input = input; input' = input'; output = output; output' = output' }

-- it falls by the count at `Ok(count)`, and stays at `Err`
abbrev pub FallsByCount : {E : Type 0} → ℕ → ℕ → Result ℕ E → Type 0
FallsByCount old new result = MatchResult result (λ count. old ≡ count + new) (λ _. new ≡ old)
