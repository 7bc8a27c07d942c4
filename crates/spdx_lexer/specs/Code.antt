-- What a contract sees of a token and of an error, borrows aside.
use Rattle.std.specs.Prelude.{ℕ, List, Option, Result, Ok, Err, option_map}
use Rattle.std.specs.Borrow.{Bor}
use Rattle.std.specs.declared.ops.Range.{Range}
use Rattle.spdx_requirement.specs.Ids.{id_row, exception_row}
use Rattle.spdx_lexer.specs.declared.token.Token.{Token}
use Rattle.spdx_lexer.specs.declared.token.LexerToken.{LexerToken}
use Rattle.spdx_lexer.specs.declared.error.ParseError.{ParseError}
use Rattle.spdx_lexer.specs.declared.error.Reason.{Reason}
use Rattle.spdx_lexer.specs.Words.{Word, Spdx, LicenseRef, Exception, AdditionRef, Unknown, Plus, OpenParen, CloseParen, With, And, Or, Fault, Span, Item}
use Rattle.spdx_lexer.specs.Faults.{fault_of}

abbrev pub document_of : Option (Bor (List ℕ)) → Option (List ℕ)
document_of d = option_map (λ (x : Bor (List ℕ)). x.now) d

abbrev pub word_of : Token → Word
word_of (Token.Spdx id) = Spdx (id_row id)
word_of (Token.LicenseRef d y) = LicenseRef (document_of d) y.now
word_of (Token.Exception id) = Exception (exception_row id)
word_of (Token.AdditionRef d y) = AdditionRef (document_of d) y.now
word_of (Token.Unknown x) = Unknown x.now
word_of Token.Plus = Plus
word_of Token.OpenParen = OpenParen
word_of Token.CloseParen = CloseParen
word_of Token.With = With
word_of Token.And = And
word_of Token.Or = Or

-- a range of places as a span
abbrev pub span_of : Range ℕ → Span
span_of r = record { from = r.start; to = r.end }

abbrev pub item_of : Result LexerToken ParseError → Item
item_of (Ok t) = Ok (word_of t.token, span_of t.span)
item_of (Err e) = Err (fault_of e.reason, span_of e.span)

-- ---- what the rules give each other

abbrev pub found_of : Token × ℕ → Word × ℕ
found_of x = (word_of x.0, x.1)

abbrev pub pair_of : Bor (List ℕ) × Bor (List ℕ) → List ℕ × List ℕ
pair_of x = (x.0.now, x.1.now)

abbrev pub seen_of : Result (Token × ℕ) (Reason × ℕ) → Result (Word × ℕ) (Fault × ℕ)
seen_of (Ok found) = Ok (found_of found)
seen_of (Err fault) = Err (fault_of fault.0, fault.1)
