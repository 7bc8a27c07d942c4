-- How a place in a file is told.
use Rattle.std.specs.Prelude.{ℕ, ◌+◌, ◌-◌, ◌==◌, not, List, length, take, drop, count_by, bit_and}
use Rattle.std.specs.List.{suffix_len}

abbrev pub newline_count : List ℕ → ℕ
newline_count bytes = count_by (λ b. b == 10) bytes

-- how many characters there are: the bytes but those that continue a character
abbrev pub character_count : List ℕ → ℕ
character_count bytes = count_by (λ b. not (bit_and b 0xc0 == 0x80)) bytes

-- how many bytes stand behind the last newline
abbrev pub last_line_len : List ℕ → ℕ
last_line_len bytes = suffix_len (λ b. not (b == 10)) bytes

-- the line that a place is in, as far as it stands before the place
abbrev pub line_before : List ℕ → ℕ → List ℕ
line_before bytes at = let before = take at bytes in drop (length before - last_line_len before) before

-- the column of a place, counted in characters from 1
abbrev pub column_of : List ℕ → ℕ → ℕ
column_of bytes at = character_count (line_before bytes at) + 1
