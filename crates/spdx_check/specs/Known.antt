-- What is known of an expression in the lines of a file.
use Rattle.std.specs.Prelude.{◌≡◌, ℕ, Bool, true, false, List, [], All, Option, is_some}
use Rattle.finding_forms.specs.declared.forms.Format.{Format}
use Rattle.finding_forms.specs.Forms.{finding_text}
use Rattle.finding_forms.specs.Frames.{framed}
use Rattle.spdx_check.specs.declared.check.Check.{Check}
use Rattle.spdx_check.specs.declared.known.Known.{Known}
use Rattle.spdx_check.specs.declared.known.Known.TheVariants.{Accepted, Framed, Refused}
use Rattle.spdx_check.specs.declared.remembered.Slot.{Slot}
use Rattle.spdx_check.specs.Checking.{Spot, found_text, replacements_in, told_at}
use Rattle.spdx_check.specs.Finding.{Wrong}
use Rattle.spdx_check.specs.Found.{finding_of}
use Rattle.spdx_check.specs.Refusals.{wrong_of}

abbrev pub is_refused : Known → Bool
is_refused Accepted = false
is_refused (Framed frame) = true
is_refused (Refused refusal) = true

-- what is written of it there
abbrev pub known_text : Format → Bool → Spot → Known → List ℕ
known_text format is_first spot Accepted = []
known_text format is_first spot (Framed frame) = framed frame spot.line
known_text format is_first spot (Refused refusal) =
    finding_text format is_first (told_at spot (wrong_of refusal))

-- an expression that is a line of the file
abbrev pub spot_in : List ℕ → ℕ → Spot
spot_in file line = record { file = file; line = line; column = 1 }

-- in each line of the file what is known tells the finding, if there is one
pub record Tells (format : Format) (file : List ℕ) (found : Option Wrong) (known : Known) : Type 0 where
  pub text : (is_first : Bool) (line : ℕ) →
      known_text format is_first (spot_in file line) known ≡ found_text format is_first
      (spot_in file line) found
  pub refuses : is_refused known ≡ is_some found

-- what is known tells what is found of the expression
abbrev pub IsKnownOf : Check → List ℕ → List ℕ → Known → Type 0
IsKnownOf check file expression known =
    Tells check.format file
    (finding_of check.catalogue.now (replacements_in check) check.mode expression)
    known

-- a slot that is used holds what is known of its expression
abbrev pub IsHeld : Check → List ℕ → Slot → Type 0
IsHeld check file slot = slot.is_used ≡ true → IsKnownOf check file slot.expression.items slot.known

abbrev pub AreHeld : Check → List ℕ → List Slot → Type 0
AreHeld check file slots = All (IsHeld check file) slots
