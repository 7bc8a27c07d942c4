-- The short forms of long texts.
use Rattle.std.specs.Prelude.{◌≡◌, ℕ, false, All, suc, zero, Option, None, Some, ◌++◌, ◌==◌, ◌^◌, ◌&&◌, List, [], ◌∷◌, codes, flat_map, length, nat_lt, if◌then◌else◌}
use Rattle.std.specs.Fmt.{decimal}
use Rattle.std.specs.List.{slice_split, before_first, after_first, position_or_len}
use Rattle.std.specs.Str.{all_ascii_digits}
use Rattle.std.specs.Str.Parse.{digits_value, without_leading_plus}

-- what stands before the first such byte, and what stands behind it; `None` where the text has none
abbrev pub parted : ℕ → List ℕ → Option (List ℕ × List ℕ)
parted byte text =
    if nat_lt (position_or_len (λ b. b == byte) text) (length text)
    then Some (before_first (λ b. b == byte) text, after_first (λ b. b == byte) text) else None

-- the number that these digits write, where it is below 2 to the 32; else 0
abbrev pub number_of : List ℕ → ℕ
number_of digits =
    if nat_lt 0 (length digits) && all_ascii_digits digits && nat_lt (digits_value 10 digits) (2 ^ 32)
    then digits_value 10 digits else 0

-- the number that the text writes, where a `+` may stand first; 0 where it writes none
abbrev pub number : List ℕ → ℕ
number text = number_of (without_leading_plus text)

-- so many units
abbrev pub units : ℕ → List ℕ → List ℕ
units zero unit = []
units (suc n) unit = units n unit ++ unit

-- the name with the number behind it, and before it what stands between two names
abbrev pub next_name : List ℕ → List ℕ → ℕ → List ℕ
next_name name between n = (if nat_lt 0 n then between else []) ++ (name ++ decimal n)

-- so many names, numbered from 0
abbrev pub names : ℕ → List ℕ → List ℕ → List ℕ
names zero name between = []
names (suc n) name between = names n name between ++ next_name name between n

-- so many names, where what stands between two of them may be left out
abbrev pub names_by : ℕ → List ℕ → Option (List ℕ × List ℕ) → List ℕ
names_by n text None = names n text []
names_by n text (Some (name, between)) = names n name between

abbrev pub short_with_names : List ℕ → Option (List ℕ × List ℕ) → List ℕ
short_with_names short None = codes "{" ++ (short ++ codes "}")
short_with_names short (Some (count, rest)) = names_by (number count) rest (parted 35 rest)

abbrev pub short_with_units : List ℕ → Option (List ℕ × List ℕ) → List ℕ
short_with_units short None = short_with_names short (parted 35 short)
short_with_units short (Some (count, unit)) = units (number count) unit

-- what stands for a text in braces: `N*UNIT`, `N#NAME#BETWEEN`, or itself
abbrev pub short_out : List ℕ → List ℕ
short_out short = short_with_units short (parted 42 short)

abbrev pub piece_with_end : List ℕ → Option (List ℕ × List ℕ) → List ℕ
piece_with_end piece None = codes "{" ++ piece
piece_with_end piece (Some (short, rest)) = short_out short ++ rest

-- what stands for a text behind a `{`
abbrev pub piece_out : List ℕ → List ℕ
piece_out piece = piece_with_end piece (parted 125 piece)

-- what stands for the parts between each `{`
abbrev pub parts_out : List (List ℕ) → List ℕ
parts_out [] = []
parts_out (first ∷ more) = first ++ flat_map piece_out more

-- the text with its short forms written out
abbrev pub written_out : List ℕ → List ℕ
written_out text = parts_out (slice_split (λ b. b == 123) text)

-- the text has no `{`
abbrev pub IsPlain : List ℕ → Type 0
IsPlain text = All (λ b. (b == 123) ≡ false) text
