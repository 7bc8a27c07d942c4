-- The numbers of reasons.
use Rattle.std.specs.Prelude.{ℕ, ◌≡◌}
use Rattle.spdx_lexer.specs.declared.error.ParseError.{ParseError}
use Rattle.spdx_lexer.specs.Faults.{fault_of}
use Rattle.spdx_lexer.specs.Words.{Fault, UnknownLicense, UnknownException, InvalidCharacters, UnclosedParens, UnopenedParens, Empty, Unexpected, SeparatedPlus, UnknownTerm, GnuNoPlus, GnuPlusWithSuffix, DeprecatedLicenseId}
use Rattle.spdx_calls.specs.declared.fault.Refusal.{Refusal}

abbrev pub number_of : Fault → ℕ
number_of UnknownLicense = 1
number_of UnknownException = 2
number_of InvalidCharacters = 3
number_of UnclosedParens = 4
number_of UnopenedParens = 5
number_of Empty = 6
number_of (Unexpected words) = 7
number_of SeparatedPlus = 8
number_of UnknownTerm = 9
number_of GnuNoPlus = 10
number_of GnuPlusWithSuffix = 11
number_of DeprecatedLicenseId = 12

-- whether a fault has the number
abbrev pub IsReasonNumber : ℕ → Type 0
IsReasonNumber number = (fault : Fault) × (number_of fault ≡ number)

-- the place of an error, and the number of its reason
abbrev pub refusal_of : ParseError → Refusal
refusal_of e =
    record { start = e.span.start; end = e.span.end; reason = number_of (fault_of e.reason) }
