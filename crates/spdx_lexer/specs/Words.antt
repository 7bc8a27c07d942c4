-- What a token and a fault are, apart from what they borrow.
use Rattle.std.specs.Prelude.{ℕ, List, Option, Result, map, ◌+◌}
use Rattle.spdx_requirement.specs.Rows.{LicenseRow, ExceptionRow}

-- a reference has the name of its document, if it has one, and its own
pub data Word : Type 0 where
  Spdx : LicenseRow → Word
  LicenseRef : Option (List ℕ) → List ℕ → Word
  Exception : ExceptionRow → Word
  AdditionRef : Option (List ℕ) → List ℕ → Word
  Unknown : List ℕ → Word
  Plus : Word
  OpenParen : Word
  CloseParen : Word
  With : Word
  And : Word
  Or : Word

-- why a text is refused: of `Unexpected` the words that were expected
pub data Fault : Type 0 where
  UnknownLicense : Fault
  UnknownException : Fault
  InvalidCharacters : Fault
  UnclosedParens : Fault
  UnopenedParens : Fault
  Empty : Fault
  Unexpected : List (List ℕ) → Fault
  SeparatedPlus : Fault
  UnknownTerm : Fault
  GnuNoPlus : Fault
  GnuPlusWithSuffix : Fault
  DeprecatedLicenseId : Fault

-- the bytes from one place up to another
pub record Span : Type 0 where
  pub from : ℕ
  pub to : ℕ

-- so many bytes from a place on
abbrev pub span : ℕ → ℕ → Span
span from len = record { from = from; to = from + len }

-- a word and where it stands
abbrev pub Placed : Type 0
Placed = Word × Span

-- the words without their places
abbrev pub words : List Placed → List Word
words read = map (λ (p : Placed). p.0) read

-- a word or a fault, and where it stands
abbrev pub Item : Type 0
Item = Result (Word × Span) (Fault × Span)
