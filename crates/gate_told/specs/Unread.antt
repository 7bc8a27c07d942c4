-- Why a text is no expression, and what would help.
use Rattle.std.specs.Prelude.{◌≡◌, ℕ, ◌≤◌, Bool, true, false, not, ◌&&◌, ◌==◌, nat_le, nat_lt, List, [], ◌∷◌, ◌++◌, Option, Some, None, codes, flat_map, length, slice_range, if◌then◌else◌}
use Rattle.std.specs.Str.{IsCharBoundary}
use Rattle.spdx_requirement.specs.Rows.{Rows}
use Rattle.spdx_lexer.specs.declared.error.Reason.{Reason}
use Rattle.spdx_lexer.specs.declared.error.Reason.TheVariants.{UnknownLicense, UnknownException, UnknownTerm}
use Rattle.spdx_lexer.specs.Faults.{fault_of, fault_text}
use Rattle.spdx_canonical.specs.Fix.{IsFixOf}
use Rattle.spdx_gate.specs.declared.judgement.Fault.{Fault}
use Rattle.spdx_hints.specs.Hints.{hints_of}
use Rattle.spdx_hints.specs.Phrase.{phrase_of}

-- the places stand in this order, each between two characters of the text
abbrev pub AreWhole : List ℕ → ℕ → ℕ → Type 0
AreWhole text start end = (start ≤ end) × IsCharBoundary text start × IsCharBoundary text end

-- what stands in the text between the two places; nothing where they cut a character
pub record IsPart (text : List ℕ) (start end : ℕ) (part : List ℕ) : Type 0 where
  pub whole : AreWhole text start end → part ≡ slice_range text start end
  pub cut : (AreWhole text start end → ⊥) → part ≡ []

-- a text that isn't longer than 120 bytes
abbrev pub is_short : List ℕ → Bool
is_short text = nat_le (length text) 120

-- a part that isn't all of the text, and neither empty nor long, is told behind the reason
abbrev pub is_telling : List ℕ → List ℕ → Bool
is_telling text part =
    not (length part == 0) && (is_short part && nat_lt (length part) (length text))

abbrev pub part_words : List ℕ → List ℕ → List ℕ
part_words text part = if is_telling text part then codes ": " ++ part else []

abbrev pub short_words : List ℕ → List ℕ
short_words mended = if is_short mended then mended else codes "what 'spdx fix' does"

abbrev pub mended_words : List ℕ → List ℕ
mended_words mended =
    codes "; write " ++ (short_words mended ++ codes ", or say read = \"lax\" in the policy")

abbrev pub next_name : List ℕ → List ℕ
next_name name = codes ", " ++ name

abbrev pub meant_words : List ℕ → List (List ℕ) → List ℕ
meant_words name names = codes "; did you mean " ++ (name ++ flat_map next_name names)

abbrev pub unlisted_words : Rows → List ℕ
unlisted_words c = codes "; not in the list " ++ (c.version ++ codes ", see --list")

-- the names that may be meant; where none may, which list has no such name
abbrev pub names_words : Rows → List (List ℕ) → List ℕ
names_words c [] = unlisted_words c
names_words c (name ∷ names) = meant_words name names

-- a name stands at the fault that no list has
abbrev pub wants_name : Reason → Bool
wants_name UnknownTerm = true
wants_name UnknownLicense = true
wants_name UnknownException = true
wants_name reason = false

-- what to write; where there is nothing, the names that may be meant, if one is wanted
abbrev pub help_words : Rows → List ℕ → Fault → Option (List ℕ) → List ℕ
help_words c text f (Some mended) = mended_words mended
help_words c text f None =
    if wants_name f.reason then names_words c (hints_of c (phrase_of text f.span.start)) else []

-- a text that is read lax has no mended one
abbrev pub IsMended : Rows → Bool → List ℕ → Option (List ℕ) → Type 0
IsMended c true text mended = mended ≡ None
IsMended c false text mended = IsFixOf c text mended

-- the reason, the part of the text that it speaks of, and what would help
pub record IsReason (c : Rows) (lax : Bool) (text : List ℕ) (f : Fault)
    (bytes : List ℕ) : Type 0 where
  pub part : List ℕ
  pub is_part : IsPart text f.span.start f.span.end part
  pub mended : Option (List ℕ)
  pub is_mended : IsMended c lax text mended
  pub is : bytes ≡ fault_text (fault_of f.reason) ++
      (part_words text part ++ help_words c text f mended)
