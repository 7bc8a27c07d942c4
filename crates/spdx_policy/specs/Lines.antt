-- Where in its lines a text goes on.
use Rattle.std.specs.Prelude.{ℕ, suc, Bool, ◌==◌, List, count_by}
use Rattle.std.specs.List.{after_last}
use Rattle.std.specs.Fmt.{is_char_start}

abbrev pub is_newline : ℕ → Bool
is_newline b = b == 10

-- the line behind these bytes, from 1: one more than their newlines
abbrev pub line_behind : List ℕ → ℕ
line_behind before = suc (count_by is_newline before)

-- the character in that line, from 1: one more than those behind the last newline, each counted by
-- its first byte
abbrev pub column_behind : List ℕ → ℕ
column_behind before = suc (count_by is_char_start (after_last is_newline before))
