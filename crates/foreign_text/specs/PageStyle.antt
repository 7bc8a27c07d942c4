-- A style that takes no text from the page, as it can be read without knowing CSS whole.
use Rattle.std.specs.Prelude.{ℕ, List, [], ◌∷◌, ◌++◌, Bool, true, false, not, ◌&&◌, ◌||◌, ◌==◌, if◌then◌else◌, bytes_eq, codes, flat_map, length}
use Rattle.std.specs.Int.{is_in_range}
use Rattle.std.specs.List.{list_all, list_any}
use Rattle.foreign_text.specs.PageText.{begins}

-- ---- words

abbrev pub is_one_of : List (List ℕ) → List ℕ → Bool
is_one_of words word = list_any (bytes_eq word) words

abbrev pub has : List ℕ → List ℕ → Bool
has word [] = false
has word (b ∷ bs) = begins (b ∷ bs) word || has word bs

-- ---- how a style is read

-- what stands before a `{`, and what before a `;` or a `}`, without blanks
pub data Piece : Type 0 where
  opens : List ℕ → Piece
  says : List ℕ → Piece

abbrev pub is_space : ℕ → Bool
is_space b = (b == 32) || is_in_range 9 13 b

abbrev pub ends_piece : ℕ → Bool
ends_piece b = (b == 59) || (b == 125)

abbrev pub piece_at : List ℕ → ℕ → List Piece
piece_at word b = if b == 123 then opens word ∷ [] else if ends_piece b then says word ∷ [] else []

abbrev pub word_behind : List ℕ → ℕ → List ℕ
word_behind word b =
    if (b == 123) || ends_piece b then [] else if is_space b then word else word ++ b ∷ []

abbrev pub pieces_from : List ℕ → List ℕ → List Piece
pieces_from word [] = []
pieces_from word (b ∷ bs) = piece_at word b ++ pieces_from (word_behind word b) bs

-- what stands before the first colon, and behind it
abbrev pub name_of : List ℕ → List ℕ
name_of [] = []
name_of (b ∷ bs) = if b == 58 then [] else b ∷ name_of bs

abbrev pub value_of : List ℕ → List ℕ
value_of [] = []
value_of (b ∷ bs) = if b == 58 then bs else value_of bs

-- ---- what it may hold

-- no capital, quote, backslash or `<`, no comment, and no name of what is loaded: so a word is what
-- it reads as
abbrev pub is_bare_byte : ℕ → Bool
is_bare_byte b = not (is_in_range 65 90 b || (b == 34) || (b == 39) || (b == 60) || (b == 92))

abbrev pub is_bare : List ℕ → Bool
is_bare style =
    list_all is_bare_byte style && not (has (codes "/*") style) && not (has (codes "url") style) &&
    not (has (codes "image") style) && not (has (codes "src") style)

-- the properties that may be set: none of them hides a text, cuts it off, covers it or adds to it,
-- but for the values below
abbrev pub properties : List (List ℕ)
properties =
    codes "background" ∷ codes "border" ∷ codes "border-bottom" ∷ codes "border-left" ∷
    codes "border-radius" ∷ codes "border-top" ∷
    codes "box-sizing" ∷ codes "break-after" ∷ codes "break-inside" ∷ codes "color" ∷
    codes "color-scheme" ∷ codes "columns" ∷
    codes "content-visibility" ∷ codes "cursor" ∷ codes "display" ∷ codes "font" ∷
    codes "font-size" ∷ codes "font-weight" ∷
    codes "height" ∷ codes "line-height" ∷ codes "list-style" ∷ codes "margin" ∷
    codes "margin-bottom" ∷ codes "margin-top" ∷
    codes "max-width" ∷ codes "outline" ∷ codes "outline-offset" ∷ codes "overflow-wrap" ∷
    codes "padding" ∷ codes "padding-left" ∷
    codes "scroll-margin-top" ∷ codes "white-space" ∷ []

-- the colours of texts, and of what they stand on
abbrev pub inks : List (List ℕ)
inks =
    codes "--ink" ∷ codes "--link" ∷ codes "--no" ∷ codes "--soft" ∷ codes "--text" ∷
    codes "--yes" ∷ []

abbrev pub grounds : List (List ℕ)
grounds = codes "--card" ∷ codes "--ground" ∷ codes "--shade" ∷ []

abbrev pub is_variable_of : List (List ℕ) → List ℕ → Bool
is_variable_of names value =
    list_any (λ (name : List ℕ). bytes_eq value (codes "var(" ++ (name ++ codes ")"))) names

-- `#` and three or six digits: a colour that nothing shines through
abbrev pub is_colour : List ℕ → Bool
is_colour value = begins value (codes "#") && ((length value == 4) || (length value == 7))

abbrev pub begins_number : List ℕ → Bool
begins_number [] = false
begins_number (b ∷ bs) = is_in_range 48 57 b || (b == 46)

abbrev pub has_negative : List ℕ → Bool
has_negative [] = false
has_negative (b ∷ bs) = ((b == 45) && begins_number bs) || has_negative bs

-- a size that is not nothing
abbrev pub is_some_size : List ℕ → Bool
is_some_size value =
    not (begins value (codes "0") || begins value (codes ".0") || has (codes "/0") value ||
    has (codes "/.0") value)

abbrev pub is : List ℕ → List ℕ → Bool
is name word = bytes_eq name word

-- of the properties that could hide a text, the values that do not
abbrev pub shows : List ℕ → List ℕ → Bool
shows name value =
    if is name (codes "display") then is_one_of (codes "block" ∷ codes "inline-block" ∷ []) value
    else if is name (codes "content-visibility") then is value (codes "visible")
    else if is name (codes "color") then is_variable_of inks value
    else if is name (codes "background") then is_variable_of grounds value
    else if is_one_of (codes "font" ∷ codes "font-size" ∷ codes "line-height" ∷ []) name
    then is_some_size value
    else true

abbrev pub is_plain_saying : List ℕ → List ℕ → Bool
is_plain_saying name value =
    if begins name (codes "--") then is_colour value
    else is_one_of properties name && shows name value && not (has_negative value)

-- of the rules with `@` only those for a medium
abbrev pub is_plain_piece : Piece → Bool
is_plain_piece (opens word) = begins word (codes "@media") || not (begins word (codes "@"))
is_plain_piece (says []) = true
is_plain_piece (says (b ∷ bs)) = is_plain_saying (name_of (b ∷ bs)) (value_of (b ∷ bs))

-- the colours that are given to these names
abbrev pub colours_of : List (List ℕ) → Piece → List (List ℕ)
colours_of names (opens word) = []
colours_of names (says word) = if is_one_of names (name_of word) then value_of word ∷ [] else []

-- no text has the colour of what it stands on
abbrev pub are_apart : List Piece → Bool
are_apart read =
    list_all (λ (colour : List ℕ). not (is_one_of (flat_map (colours_of grounds) read) colour))
    (flat_map (colours_of inks) read)

unfoldable pub is_plain_style : List ℕ → Bool
is_plain_style style =
    is_bare style && list_all is_plain_piece (pieces_from [] style) &&
    are_apart (pieces_from [] style)
