-- The printed texts of faults.
use Rattle.std.specs.Prelude.{ℕ, ◌-◌, List, [], ◌∷◌, ◌++◌, map, codes}
use Rattle.std.specs.Borrow.{Bor}
use Rattle.std.specs.List.{repeat, join_by}
use Rattle.spdx_lexer.specs.declared.error.Reason.{Reason}
use Rattle.spdx_lexer.specs.declared.error.ParseError.{ParseError}
use Rattle.spdx_lexer.specs.Words.{Fault, UnknownLicense, UnknownException, InvalidCharacters, UnclosedParens, UnopenedParens, Empty, Unexpected, SeparatedPlus, UnknownTerm, GnuNoPlus, GnuPlusWithSuffix, DeprecatedLicenseId}

-- the words that were expected
abbrev pub terms_of : List (Bor (List ℕ)) → List (List ℕ)
terms_of words = map (λ (w : Bor (List ℕ)). w.now) words

-- a reason, what it borrows aside
abbrev pub fault_of : Reason → Fault
fault_of Reason.UnknownLicense = UnknownLicense
fault_of Reason.UnknownException = UnknownException
fault_of Reason.InvalidCharacters = InvalidCharacters
fault_of Reason.UnclosedParens = UnclosedParens
fault_of Reason.UnopenedParens = UnopenedParens
fault_of Reason.Empty = Empty
fault_of (Reason.Unexpected words) = Unexpected (map (λ (w : Bor (List ℕ)). w.now) words.now)
fault_of Reason.SeparatedPlus = SeparatedPlus
fault_of Reason.UnknownTerm = UnknownTerm
fault_of Reason.GnuNoPlus = GnuNoPlus
fault_of Reason.GnuPlusWithSuffix = GnuPlusWithSuffix
fault_of Reason.DeprecatedLicenseId = DeprecatedLicenseId

-- what a fault says, apart from the words that were expected
abbrev pub description_text : Fault → List ℕ
description_text UnknownLicense = codes "unknown license id"
description_text UnknownException = codes "unknown exception id"
description_text InvalidCharacters = codes "invalid character(s)"
description_text UnclosedParens = codes "unclosed parens"
description_text UnopenedParens = codes "unopened parens"
description_text Empty = codes "empty expression"
description_text (Unexpected words) = codes "unexpected term"
description_text SeparatedPlus = codes "`+` must not follow whitespace"
description_text UnknownTerm = codes "unknown term"
description_text GnuNoPlus = codes "a GNU license was followed by a `+`"
description_text GnuPlusWithSuffix =
    codes "a GNU license was followed by a `+` even though it ended in `-only` or `-or-later`"
description_text DeprecatedLicenseId = codes "a deprecated license identifier was used"

abbrev pub quoted : List ℕ → List ℕ
quoted word = codes "`" ++ (word ++ codes "`")

-- the words in backquotes, with commas between them
abbrev pub quoted_words : List (List ℕ) → List ℕ
quoted_words words = join_by quoted (codes ", ") words

-- none, one or several words that were expected
abbrev pub unexpected_text : List (List ℕ) → List ℕ
unexpected_text [] = codes "the term was not expected here"
unexpected_text (word ∷ []) = codes "expected a " ++ (quoted word ++ codes " here")
unexpected_text (one ∷ two ∷ words) =
    codes "expected one of " ++ (quoted_words (one ∷ two ∷ words) ++ codes " here")

abbrev pub fault_text : Fault → List ℕ
fault_text (Unexpected words) = unexpected_text words
fault_text fault = description_text fault

-- below the text, behind the blanks: a mark for a parenthesis, a caret for each byte otherwise
abbrev pub marks : Fault → ℕ → List ℕ
marks UnclosedParens len = codes "-"
marks UnopenedParens len = codes "^"
marks fault len = repeat len (codes "^")

-- the text, and below it a blank for each byte before the span, the marks, and the fault
abbrev pub fault_display : List ℕ → ℕ → ℕ → Fault → List ℕ
fault_display text from to fault =
    text ++ (codes "\n" ++
    (repeat from (codes " ") ++ (marks fault (to - from) ++ (codes " " ++ fault_text fault))))

abbrev pub error_text : ParseError → List ℕ
error_text e = fault_display e.original.now e.span.start e.span.end (fault_of e.reason)
