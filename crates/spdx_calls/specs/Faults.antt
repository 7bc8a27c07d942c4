-- What the faults of the calls say.
use Rattle.std.specs.Prelude.{◌≡◌, ◌⊎◌, ℕ, List, ◌∷◌, ◌++◌, length, Err, IsUtf8}
use Rattle.line_engine.specs.Lines.{lines_of}
use Rattle.spdx_requirement.specs.Rows.{Rows}
use Rattle.spdx_requirement.specs.Items.{Requirement}
use Rattle.spdx_lexer.specs.declared.token.ParseMode.{ParseMode}
use Rattle.spdx_lexer.specs.declared.error.ParseError.{ParseError}
use Rattle.spdx_lexer.specs.Code.{span_of}
use Rattle.spdx_lexer.specs.Faults.{fault_of}
use Rattle.spdx_parser.specs.Meaning.{IsRefused}
use Rattle.spdx_licensee.specs.LicenseeText.{NamesNone, IsLicenseeFault}
use Rattle.spdx_canonical.specs.Canonical.{canonical_of}
use Rattle.spdx_canonical.specs.Code.{placed_fault}
use Rattle.spdx_calls.specs.declared.fault.CallFault.{CallFault}
use Rattle.spdx_calls.specs.declared.fault.CallFault.TheVariants.{NotText, Refused, LicenseeNotText, Licensee, Memory}
use Rattle.spdx_calls.specs.Reasons.{refusal_of}
use Rattle.spdx_calls.specs.Answers.{Reads}
use Rattle.spdx_calls.specs.Licensees.{AreNamed}

-- why bytes are no expression: they are no text, or a text whose first fault this is; of want of
-- memory nothing
abbrev pub IsTextFault : Rows → ParseMode → List ℕ → CallFault → Type 0
IsTextFault c m text NotText = ¬ (IsUtf8 text)
IsTextFault c m text (Refused r) =
    (error : ParseError) × IsRefused c m text error × (r ≡ refusal_of error)
IsTextFault c m text Memory = Unit {0}
IsTextFault c m text _ = ⊥

-- the text is an expression that has no canonical text
abbrev pub HasNoCanonical : Rows → ParseMode → List ℕ → ParseError → Type 0
HasNoCanonical c m text error = Reads c m text × (canonical_of c text ≡ Err (placed_fault error))

-- the same, or the text has no canonical one
abbrev pub IsCanonicalFault : Rows → ParseMode → List ℕ → CallFault → Type 0
IsCanonicalFault c m text (Refused r) =
    (error : ParseError) × (IsRefused c m text error ⊎ HasNoCanonical c m text error) ×
    (r ≡ refusal_of error)
IsCanonicalFault c m text fault = IsTextFault c m text fault

abbrev pub IsFixFault : List ℕ → CallFault → Type 0
IsFixFault text NotText = ¬ (IsUtf8 text)
IsFixFault text Memory = Unit {0}
IsFixFault text _ = ⊥

-- nothing is wrong with a name but that it is no text
abbrev pub IsNameFault : List ℕ → CallFault → Type 0
IsNameFault name NotText = ¬ (IsUtf8 name)
IsNameFault name _ = ⊥

-- why a line names no licensee, which would have this number
abbrev pub IsFaultOfLine : Rows → List ℕ → ℕ → CallFault → Type 0
IsFaultOfLine c line n (LicenseeNotText k) = (k ≡ n) × ¬ (IsUtf8 line)
IsFaultOfLine c line n (Licensee k r) =
    (k ≡ n) × (NamesNone c line ×
    ((e : ParseError) × IsLicenseeFault c line (fault_of e.reason) (span_of e.span) ×
    (r ≡ refusal_of e)))
IsFaultOfLine c line n Memory = Unit {0}
IsFaultOfLine c line n _ = ⊥

-- it is the fault of a line before which each names a licensee
pub record IsFirstFault (c : Rows) (lines : List (List ℕ)) (fault : CallFault) : Type 0 where
  pub before : List (List ℕ)
  pub line : List ℕ
  pub behind : List (List ℕ)
  pub cut : lines ≡ before ++ line ∷ behind
  pub named : (licensees : List Requirement) × AreNamed c before licensees
  pub fault_is : IsFaultOfLine c line (length before) fault

abbrev pub IsLicenseesFault : Rows → List (List ℕ) → CallFault → Type 0
IsLicenseesFault c lines Memory = Unit {0}
IsLicenseesFault c lines fault = IsFirstFault c lines fault

abbrev pub IsLinesFault : Rows → List ℕ → CallFault → Type 0
IsLinesFault c licensees fault = IsLicenseesFault c (lines_of licensees) fault
