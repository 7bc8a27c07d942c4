-- A text as a page of HTML holds it, and as a browser reads it there.
use Rattle.std.specs.Prelude.{◌≡◌, ℕ, zero, suc, ◌≢◌, ⊤, List, [], ◌∷◌, Bool, false, not, ◌&&◌, ◌||◌, ◌==◌, if◌then◌else◌, Option, None, Some, chars, codes, encode_utf8, flat_map}
use Rattle.std.specs.Int.{is_in_range}
use Rattle.foreign_text.specs.Hidden as foreign
use Rattle.std.specs.Option.{option_map}
use Rattle.std.specs.List.{starts_with}

-- ---- what is written

-- HTML's blanks: tab, newline, form feed, carriage return
abbrev pub is_blank : ℕ → Bool
is_blank c = is_in_range 9 10 c || is_in_range 12 13 c

-- not shown as it is, and no blank
abbrev pub is_hidden : ℕ → Bool
is_hidden c = not (is_blank c) && foreign.is_hidden c

-- what stands for a character that is not seen is seen
abbrev pub shown_char : ℕ → List ℕ
shown_char c = encode_utf8 (if is_hidden c then 0xFFFD else c)

abbrev pub shown_text : List ℕ → List ℕ
shown_text text = flat_map shown_char (chars text)

-- each of the characters is shown as it is
abbrev pub AreSeen : List ℕ → Type 0
AreSeen [] = ⊤
AreSeen (c ∷ cs) = (is_hidden c ≡ false) × AreSeen cs

abbrev pub HasNoHidden : List ℕ → Type 0
HasNoHidden text = AreSeen (chars text)

abbrev pub page_char : ℕ → List ℕ
page_char c =
    if c == 38 then codes "&amp;"
    else if c == 60 then codes "&lt;"
    else if c == 62 then codes "&gt;"
    else if c == 34 then codes "&quot;"
    else if c == 39 then codes "&#39;"
    else shown_char c

-- the text as a page holds it
abbrev pub page_text : List ℕ → List ℕ
page_text text = flat_map page_char (chars text)

-- ---- what is read

-- `<`, `>`, `"`, `'`
abbrev pub is_mark : ℕ → Bool
is_mark b = (b == 60) || (b == 62) || (b == 34) || (b == 39)

-- no tag begins or ends here, and no quoted value ends
abbrev pub HasNoMarkup : List ℕ → Type 0
HasNoMarkup [] = ⊤
HasNoMarkup (b ∷ bs) = ((b ≢ 60) × (b ≢ 62) × (b ≢ 34) × (b ≢ 39)) × HasNoMarkup bs

-- a byte of the text before the rest, where that can be read
abbrev pub before_rest : ℕ → Option (List ℕ) → Option (List ℕ)
before_rest b rest = option_map (λ (bs : List ℕ). b ∷ bs) rest

abbrev pub begins : List ℕ → List ℕ → Bool
begins bs word = starts_with (λ (x : ℕ) (y : ℕ). x == y) bs word

-- the text that so many bytes further on is read; an ampersand that begins no entity is no text,
-- and no mark is
abbrev pub read_from : ℕ → List ℕ → Option (List ℕ)
read_from skipped [] = Some []
read_from (suc skipped) (b ∷ bs) = read_from skipped bs
read_from zero (b ∷ bs) =
    if b == 38 then (
    if begins bs (codes "amp;") then before_rest 38 (read_from 4 bs)
    else if begins bs (codes "lt;") then before_rest 60 (read_from 3 bs)
    else if begins bs (codes "gt;") then before_rest 62 (read_from 3 bs)
    else if begins bs (codes "quot;") then before_rest 34 (read_from 5 bs)
    else if begins bs (codes "#39;") then before_rest 39 (read_from 4 bs)
    else None)
    else if is_mark b then None
    else before_rest b (read_from 0 bs)

abbrev pub read_text : List ℕ → Option (List ℕ)
read_text page = read_from 0 page
