-- What the text of a license says.
use Rattle.std.specs.Prelude.{ℕ, ◌+◌, ◌-◌, Bool, not, ◌&&◌, ◌||◌, ◌==◌, Option, Some, None, List, [], ◌∷◌, ◌++◌, if◌then◌else◌, bytes_eq, codes, chars, encode_utf8, flat_map}
use Rattle.std.specs.List.{find, list_all}
use Rattle.std.specs.Char.{is_ascii_whitespace, is_ascii_alphanumeric}
use Rattle.package_items.specs.Rows.{LicenseRow, unstated, stated}

abbrev pub is_blank : List ℕ → Bool
is_blank text = list_all is_ascii_whitespace text

-- a blank text says nothing, nor do SPDX's two words for nothing
abbrev pub is_unstated : List ℕ → Bool
is_unstated text =
    is_blank text || (bytes_eq text (codes "NONE") || bytes_eq text (codes "NOASSERTION"))

-- what a text says that is there
abbrev pub license_in : List ℕ → LicenseRow
license_in text = if is_unstated text then unstated else stated text

-- Cargo's slash between licenses is read as `OR`
abbrev pub slash_as_or : ℕ → List ℕ
slash_as_or c = if c == 47 then codes " OR " else encode_utf8 c

abbrev pub slashes_as_or : List ℕ → List ℕ
slashes_as_or text = flat_map slash_as_or (chars text)

-- letters, digits, and what else stands in one term
abbrev pub is_term_byte : ℕ → Bool
is_term_byte b = is_ascii_alphanumeric b || ((b == 45) || ((b == 46) || ((b == 43) || (b == 58))))

-- a text that stands with others: in parentheses, unless it is one term
abbrev pub part : List ℕ → List ℕ
part text = if list_all is_term_byte text then text else codes "(" ++ (text ++ codes ")")

-- a text behind the word that joins it to others
abbrev pub behind_word : List ℕ → List ℕ → List ℕ
behind_word word text = word ++ part text

-- texts joined by a word; one alone stands as it is
abbrev pub joined : List ℕ → List (List ℕ) → List ℕ
joined word [] = []
joined word (t ∷ []) = t
joined word (t ∷ u ∷ us) = part t ++ flat_map (behind_word word) (u ∷ us)

-- whether the parentheses of a text close behind so many that are open
abbrev pub closes_behind : ℕ → List ℕ → Bool
closes_behind depth [] = depth == 0
closes_behind depth (b ∷ bs) =
    if b == 40 then closes_behind (depth + 1) bs
    else if b == 41 then not (depth == 0) && closes_behind (depth - 1) bs
    else closes_behind depth bs

abbrev pub is_open : List ℕ → Bool
is_open text = not (closes_behind 0 text)

-- texts together; but one whose parentheses don't close stands alone, for it could open or close
-- those of the others, and no reader takes it
abbrev pub together : List ℕ → List (List ℕ) → Option (List ℕ) → List ℕ
together word texts None = joined word texts
together word texts (Some text) = text

-- what several texts say: nothing, if none of them says anything
unfoldable pub license_of_all : List ℕ → List (List ℕ) → LicenseRow
license_of_all word texts =
    if list_all is_unstated texts then unstated
    else stated (together word texts (find is_open texts))
