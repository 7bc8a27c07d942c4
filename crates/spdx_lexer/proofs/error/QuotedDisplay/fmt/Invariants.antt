use Rattle.std.proofs.Common.{◌∷◌, take}
use Rattle.std.specs.Fmt.{HasWritten, IsPlainFormatter}
use Rattle.spdx_lexer.specs.Faults.{quoted_words, terms_of}
use Rattle.spdx_lexer.proofs.error.QuotedDisplay.fmt.Given as goal

abbrev pub invariant-loop-word : goal.invariant-loop-word
invariant-loop-word g l =
    IsPlainFormatter l.fn.f → HasWritten g.W.Write.write_str_gives l.fn.f (quoted_words (l.self.first.now ∷ l.self.second.now ∷ terms_of (take l.word-index l.self.rest.now))) l.f
