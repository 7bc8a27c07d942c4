-- What a source file has as text.
use Rattle.std.specs.Prelude.{ℕ, ◌+◌, ◌*◌, Bool, true, false, List, [], ◌∷◌, Option, Some, None, drop, nat_eq, if◌then◌else◌}
use Rattle.std.specs.Char.Utf16.{utf16_lossy_chars}
use Rattle.std.specs.List.{starts_with}
use Rattle.std.specs.Str.{encode_utf8_all}

-- a unit of UTF-16, whose lower byte comes first or last
abbrev pub unit_of : Bool → ℕ → ℕ → ℕ
unit_of true one other = other * 256 + one
unit_of false one other = one * 256 + other

-- two bytes each; an odd byte at the end is no unit
abbrev pub units_in : Bool → List ℕ → List ℕ
units_in is_little (one ∷ other ∷ bytes) = unit_of is_little one other ∷ units_in is_little bytes
units_in is_little bytes = []

-- in UTF-8, with U+FFFD for each surrogate that has no partner
abbrev pub text_of_pairs : Bool → List ℕ → List ℕ
text_of_pairs is_little bytes = encode_utf8_all (utf16_lossy_chars (units_in is_little bytes))

-- what a byte order mark of UTF-16 tells to be in UTF-16
abbrev pub utf16_text : List ℕ → Option (List ℕ)
utf16_text bytes =
    if starts_with nat_eq bytes (255 ∷ 254 ∷ []) then Some (text_of_pairs true (drop 2 bytes)) else
    if starts_with nat_eq bytes (254 ∷ 255 ∷ []) then Some (text_of_pairs false (drop 2 bytes)) else
    None

-- without a byte order mark of UTF-8
abbrev pub without_mark : List ℕ → List ℕ
without_mark bytes =
    if starts_with nat_eq bytes (239 ∷ 187 ∷ 191 ∷ []) then drop 3 bytes else bytes

abbrev pub decoded_or : Option (List ℕ) → List ℕ → List ℕ
decoded_or None bytes = without_mark bytes
decoded_or (Some text) bytes = text

-- the text of a source file: of one in UTF-16 in UTF-8, else what stands behind a mark
abbrev pub source_bytes : List ℕ → List ℕ
source_bytes bytes = decoded_or (utf16_text bytes) bytes
