-- A name in the header of a unified diff, as git writes and reads it.
use Rattle.std.specs.Prelude.{◌≡◌, ℕ, ◌+◌, ◌-◌, ◌*◌, ◌/◌, ◌%◌, List, [], ◌∷◌, ◌++◌, Bool, not, ◌&&◌, ◌||◌, ◌==◌, if◌then◌else◌, Option, None, Some, flat_map}
use Rattle.std.specs.Int.{is_in_range}
use Rattle.std.specs.List.{list_all, list_any}
use Rattle.std.specs.Option.{option_and_then}
use Rattle.foreign_text.specs.Read.{before_rest}

-- ---- what is written

-- printed ASCII but for `"` and the backslash
abbrev pub is_plain : ℕ → Bool
is_plain b = is_in_range 32 126 b && (not (b == 34) && not (b == 92))

abbrev pub is_blank : ℕ → Bool
is_blank b = b == 32

-- the letter of C for a byte, or `"` and the backslash themselves; 0 where there is none
abbrev pub letter_for : ℕ → ℕ
letter_for b =
    if b == 7 then 97 else if b == 8 then 98 else if b == 9 then 116 else if b == 10 then 110
    else if b == 11 then 118
    else if b == 12 then 102 else if b == 13 then 114 else if b == 34 then 34 else if b == 92
    then 92 else 0

-- three octal digits
abbrev pub octal : ℕ → List ℕ
octal b = (48 + b / 64) ∷ (48 + b / 8 % 8) ∷ (48 + b % 8) ∷ []

abbrev pub quoted_byte : ℕ → List ℕ
quoted_byte b =
    if is_plain b then b ∷ [] else 92 ∷ (if letter_for b == 0 then octal b else letter_for b ∷ [])

abbrev pub quoted : List ℕ → List ℕ
quoted name = 34 ∷ (flat_map quoted_byte name ++ 34 ∷ [])

-- the name as it stands, or in quotes
abbrev pub shown_name : List ℕ → List ℕ
shown_name name = if list_all is_plain name then name else quoted name

-- a tab behind a name with a blank
abbrev pub tab_for : List ℕ → List ℕ
tab_for name = if list_any is_blank name then 9 ∷ [] else []

-- the name, and the end of its line
abbrev pub header_name : List ℕ → List ℕ
header_name name = shown_name name ++ (tab_for name ++ 10 ∷ [])

-- ---- what is read

-- the byte that a letter stands for
abbrev pub byte_of : ℕ → Option ℕ
byte_of l =
    if l == 97 then Some 7 else if l == 98 then Some 8 else if l == 116 then Some 9 else if l == 110
    then Some 10 else if l == 118 then Some 11
    else if l == 102 then Some 12 else if l == 114 then Some 13 else if l == 34 then Some 34
    else if l == 92 then Some 92 else None

-- where a reader of quotes stands: between bytes, behind a backslash, or behind one or two digits
pub data Quote : Type 0 where
  between : Quote
  behind_backslash : Quote
  behind_digit : ℕ → Quote
  behind_digits : ℕ → Quote

abbrev pub is_octal : ℕ → Bool
is_octal b = is_in_range 48 55 b

-- a byte before the rest, where both can be read
abbrev pub read_letter : Option ℕ → Option (List ℕ) → Option (List ℕ)
read_letter letter rest = option_and_then (λ (b : ℕ). before_rest (b ∷ []) rest) letter

-- up to the closing quote
abbrev pub read_quoted : Quote → List ℕ → Option (List ℕ)
read_quoted place [] = None
read_quoted between (b ∷ bs) =
    if b == 34 then Some [] else if b == 92 then read_quoted behind_backslash bs
    else before_rest (b ∷ []) (read_quoted between bs)
read_quoted behind_backslash (b ∷ bs) =
    if is_octal b then read_quoted (behind_digit (b - 48)) bs
    else read_letter (byte_of b) (read_quoted between bs)
read_quoted (behind_digit n) (b ∷ bs) =
    if is_octal b then read_quoted (behind_digits (n * 8 + (b - 48))) bs else None
read_quoted (behind_digits n) (b ∷ bs) =
    if is_octal b then before_rest ((n * 8 + (b - 48)) ∷ []) (read_quoted between bs) else None

-- up to a tab or the end of the line
abbrev pub read_bare : List ℕ → List ℕ
read_bare [] = []
read_bare (b ∷ bs) = if (b == 9) || (b == 10) then [] else b ∷ read_bare bs

-- the name that a header's line begins with
abbrev pub read_header_name : List ℕ → Option (List ℕ)
read_header_name [] = Some []
read_header_name (b ∷ bs) = if b == 34 then read_quoted between bs else Some (read_bare (b ∷ bs))

-- whatever follows its line, the name is read as it is
abbrev pub HeaderReadsBack : List ℕ → Type 0
HeaderReadsBack name = (rest : List ℕ) → read_header_name (header_name name ++ rest) ≡ Some name
