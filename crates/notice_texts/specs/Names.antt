-- Which license the name of a file says.
use Rattle.std.specs.Prelude.{ℕ, ◌-◌, Bool, false, not, ◌&&◌, ◌||◌, ◌==◌, nat_le, List, [], ◌∷◌, length, take, drop, reverse, codes, if◌then◌else◌}
use Rattle.std.specs.List.{list_any, slice_split, prefix_len}
use Rattle.std.specs.Char.{is_ascii_alphabetic}
use Rattle.std.specs.Str.{str_eq_ignore_ascii_case}
use Rattle.notice_texts.specs.declared.words.TheConstants.{NICKNAMES}

-- what stands behind the last `/`
abbrev pub name_in : List ℕ → List ℕ
name_in path = drop (length path - prefix_len (λ b. not (b == 47)) (reverse path)) path

-- equal, the case of ASCII letters aside
abbrev pub same : List ℕ → List ℕ → Bool
same a b = str_eq_ignore_ascii_case a b

abbrev pub begins : List ℕ → List ℕ → Bool
begins text word = same (take (length word) text) word

abbrev pub ends : List ℕ → List ℕ → Bool
ends text ending =
    nat_le (length ending) (length text) && same (drop (length text - length ending) text) ending

-- ---- tags

abbrev pub is_separator : ℕ → Bool
is_separator b = b == 45 || (b == 46 || (b == 95 || b == 32))

-- the text without the `-`, `.`, `_` or blank that it begins with, and nothing where it begins
-- otherwise
abbrev pub behind_separator : List ℕ → List ℕ
behind_separator [] = []
behind_separator (b ∷ bytes) = if is_separator b then bytes else []

-- the text without an ending that says how it is written
abbrev pub without_ending : List ℕ → List ℕ
without_ending text =
    if ends text (codes ".txt") then take (length text - 4) text else
    if ends text (codes ".rst") then take (length text - 4) text else
    if ends text (codes ".md") then take (length text - 3) text else
    if ends text (codes ".html") then take (length text - 5) text else
    text

-- what stands behind a word of this length and a separator
abbrev pub tag_behind : ℕ → List ℕ → List ℕ
tag_behind n name = without_ending (behind_separator (drop n name))

-- what the name says behind its word, as `MIT` in `LICENSE-MIT.txt`; `UNLICENSE` says itself
abbrev pub tag_of : List ℕ → List ℕ
tag_of name =
    if begins name (codes "unlicense") then codes "unlicense" else
    if begins name (codes "license") then tag_behind 7 name else
    if begins name (codes "licence") then tag_behind 7 name else
    if begins name (codes "copying") then tag_behind 7 name else
    if begins name (codes "copyright") then tag_behind 9 name else
    []

-- ---- which licenses a tag stands for

abbrev pub begins_with_letter : List ℕ → Bool
begins_with_letter [] = false
begins_with_letter (b ∷ bytes) = is_ascii_alphabetic b

-- the license's name begins with the word, and no letter follows
abbrev pub is_of : List ℕ → List ℕ → Bool
is_of license word =
    begins license word && not (begins_with_letter (drop (length word) license))

abbrev pub first_word : List ℕ → List ℕ
first_word line = take (prefix_len (λ b. not (b == 32)) line) line

abbrev pub words : List ℕ → List (List ℕ)
words line = slice_split (λ b. b == 32) line

-- the line is of the licenses whose names begin with its first word, and has the tag
abbrev pub is_nickname_in : List ℕ → List ℕ → List ℕ → Bool
is_nickname_in tag license line =
    is_of license (first_word line) && list_any (λ word. same word tag) (words line)

-- the tag is the license's name, or a nickname of the table
unfoldable pub stands_for : List ℕ → List ℕ → Bool
stands_for tag license =
    same tag license
    || list_any (is_nickname_in tag license) (slice_split (λ b. b == 10) NICKNAMES.now)

-- the name of the file says one of these licenses
abbrev pub says_one : List ℕ → List (List ℕ) → Bool
says_one name licenses =
    not (length (tag_of name) == 0) && list_any (stands_for (tag_of name)) licenses
