-- Parts of the rules of a word.
use Rattle.std.specs.Prelude.{ℕ, Bool, ◌&&◌, ◌==◌, Option, Some, None, if◌then◌else◌}
use Rattle.spdx_lexer.specs.declared.token.ParseMode.{ParseMode}
use Rattle.spdx_lexer.specs.Words.{Word, Plus, OpenParen, CloseParen, Or}

-- what is found, where the mode allows it
abbrev pub if_allowed : Bool → Option (Word × ℕ) → Option (Word × ℕ)
if_allowed allowed found = if allowed then found else None

-- `+`, `(`, `)`, and `/` for OR where the mode allows it
abbrev pub sign_of : ParseMode → ℕ → Option Word
sign_of m b =
    if b == 43 then Some Plus else
    if b == 40 then Some OpenParen else
    if b == 41 then Some CloseParen else
    if b == 47 && m.allow_slash_as_or_operator then Some Or else None
