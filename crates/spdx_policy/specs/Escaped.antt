-- Foreign text in a line that a terminal shows.
use Rattle.std.specs.Prelude.{ℕ, Bool, false, ◌||◌, ◌==◌, List, [], ◌++◌, length, take, flat_map, chars, codes, encode_utf8, nat_lt, if◌then◌else◌}
use Rattle.std.specs.Int.{is_in_range}
use Rattle.std.specs.Char.{is_control}
use Rattle.std.specs.Fmt.{digits}

-- a separator of lines or of paragraphs
abbrev pub is_separator : ℕ → Bool
is_separator c = is_in_range 0x2028 0x2029 c

-- a mark of direction: what Unicode calls a control of bidirectional text
abbrev pub is_direction : ℕ → Bool
is_direction c =
    (c == 0x61C) || (is_in_range 0x200E 0x200F c ||
    (is_in_range 0x202A 0x202E c || is_in_range 0x2066 0x2069 c))

-- a terminal may obey the character in place of showing it
abbrev pub is_obeyed : ℕ → Bool
is_obeyed c = is_control c || (is_separator c || is_direction c)

-- such a character stands as its number, as `\u{1b}`
abbrev pub char_shown : ℕ → List ℕ
char_shown c =
    if is_obeyed c then codes "\\u{" ++ (digits 16 false c ++ codes "}") else encode_utf8 c

-- two dots for what stands behind the first 80 characters
abbrev pub dots : List ℕ → List ℕ
dots text = if nat_lt 80 (length (chars text)) then codes ".." else []

-- the first 80 characters, and the dots
abbrev pub shown : List ℕ → List ℕ
shown text = flat_map char_shown (take 80 (chars text)) ++ dots text

abbrev pub quoted : List ℕ → List ℕ
quoted text = codes "\"" ++ (shown text ++ codes "\"")
