use Rattle.std.proofs.Common.{[], sym}
use Rattle.spdx_lexer.specs.Words.{UnknownLicense, UnknownException, InvalidCharacters, UnclosedParens, UnopenedParens, Empty, Unexpected, SeparatedPlus, UnknownTerm, GnuNoPlus, GnuPlusWithSuffix, DeprecatedLicenseId}
use Rattle.spdx_calls.proofs.fault.reason_text.Goals as goal
use Rattle.spdx_calls.proofs.fault.reason_text.Goals.{in-1, in-2, in-3, in-4, in-5, in-6, in-7, in-8, in-9, in-10, in-11, in-12}

-- the fault of each arm has the number
pub returns-clause-known : goal.returns-clause-known
returns-clause-known c = λ _.
    elim c.match-number.branch [
      | in-1 w ↦ (UnknownLicense, sym w.in-1.is)
      | in-2 w ↦ (UnknownException, sym w.in-2.is)
      | in-3 w ↦ (InvalidCharacters, sym w.in-3.is)
      | in-4 w ↦ (UnclosedParens, sym w.in-4.is)
      | in-5 w ↦ (UnopenedParens, sym w.in-5.is)
      | in-6 w ↦ (Empty, sym w.in-6.is)
      | in-7 w ↦ (Unexpected [], sym w.in-7.is)
      | in-8 w ↦ (SeparatedPlus, sym w.in-8.is)
      | in-9 w ↦ (UnknownTerm, sym w.in-9.is)
      | in-10 w ↦ (GnuNoPlus, sym w.in-10.is)
      | in-11 w ↦ (GnuPlusWithSuffix, sym w.in-11.is)
      | in-12 w ↦ (DeprecatedLicenseId, sym w.in-12.is)
    ]
