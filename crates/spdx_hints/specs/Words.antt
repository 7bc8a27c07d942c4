-- The words and the numbers of a text, as `gpl` and `3` of `GPLv3`.
use Rattle.std.specs.Prelude.{ℕ, ◌-◌, Bool, not, ◌||◌, ◌&&◌, ◌==◌, nat_eq, List, length, take, drop, take_while, if◌then◌else◌, codes, unwrap_or, bytes_eq}
use Rattle.std.specs.List.{list_all, list_any, slice_split, ends_with, prefix_len}
use Rattle.std.specs.Char.{is_ascii_alphabetic, is_ascii_alphanumeric, is_ascii_digit}
use Rattle.std.specs.Str.{str_eq_ignore_ascii_case}
use Rattle.spdx_requirement.specs.Endings.{without}

-- ASCII letters, digits and dots
abbrev pub is_piece_byte : ℕ → Bool
is_piece_byte b = is_ascii_alphanumeric b || b == 46

abbrev pub is_number_byte : ℕ → Bool
is_number_byte b = is_ascii_digit b || b == 46

-- the pieces between all other bytes, some of which are empty
abbrev pub pieces : List ℕ → List (List ℕ)
pieces text = slice_split (λ b. not (is_piece_byte b)) text

-- the letters that a piece begins with
abbrev pub letters : List ℕ → List ℕ
letters piece = take_while is_ascii_alphabetic piece

abbrev pub ends_in_v : List ℕ → Bool
ends_in_v word = ends_with nat_eq word (codes "v") || ends_with nat_eq word (codes "V")

abbrev pub less_last : List ℕ → List ℕ
less_last word = take (length word - 1) word

-- the word of a piece: its letters, but for a `v` at their end that something follows, as in
-- `GPLv3`
abbrev pub word : List ℕ → List ℕ
word piece =
    if not (length (letters piece) == length piece) && ends_in_v (letters piece)
    then less_last (letters piece) else letters piece

-- the piece from its first digit on
abbrev pub from_digit : List ℕ → List ℕ
from_digit piece = drop (prefix_len (λ b. not (is_ascii_digit b)) piece) piece

-- the ending taken off, if it is there
abbrev pub less : List ℕ → List ℕ → List ℕ
less ending number = unwrap_or (without ending number) number

-- the number of a piece: the digits and dots from its first digit on, a `.` and a `.0` at the end
-- aside, so that `2` is `2.0`
abbrev pub number : List ℕ → List ℕ
number piece = less (codes ".0") (less (codes ".") (take_while is_number_byte (from_digit piece)))

abbrev pub same : List ℕ → List ℕ → Bool
same a b = str_eq_ignore_ascii_case a b

-- words that tell no licence from another
abbrev pub is_noise : List ℕ → Bool
is_noise w =
    length w == 0
    || (same w (codes "the") ||
    (same w (codes "a") ||
    (same w (codes "license") ||
    (same w (codes "licence") || (same w (codes "licensed") || (same w (codes "unlicensed")
    || (same w (codes "version") ||
    (same w (codes "v") ||
    (same w (codes "gnu") ||
    (same w (codes "only") || (same w (codes "or") || (same w (codes "later")
    || (same w (codes "international") ||
    (same w (codes "unported") || same w (codes "universal")))))))))))))))

-- one of the text's words is this one, the case of ASCII letters aside
abbrev pub has_word : List ℕ → List ℕ → Bool
has_word text w = list_any (λ p. same (word p) w) (pieces text)

-- one of the text's numbers is this one
abbrev pub has_number : List ℕ → List ℕ → Bool
has_number text n = list_any (λ p. bytes_eq (number p) n) (pieces text)

-- the words of `a`, noise aside, are all words of `b`
abbrev pub has_words : List ℕ → List ℕ → Bool
has_words b a = list_all (λ p. is_noise (word p) || has_word b (word p)) (pieces a)

-- the numbers of `a` are all numbers of `b`
abbrev pub has_numbers : List ℕ → List ℕ → Bool
has_numbers b a = list_all (λ p. length (number p) == 0 || has_number b (number p)) (pieces a)

-- words of another licence that has most of the words
abbrev pub names_another : List ℕ → Bool
names_another w =
    same w (codes "affero") || (same w (codes "lesser") || (same w (codes "library")
    || (same w (codes "free") || (same w (codes "documentation") || (same w (codes "commons")
    || (same w (codes "perl")))))))

-- words of an older, a newer or a changed text
abbrev pub names_an_age : List ℕ → Bool
names_an_age w =
    same w (codes "old") ||
    (same w (codes "original") || (same w (codes "new") || (same w (codes "revised")
    || (same w (codes "simplified") || (same w (codes "modification") || (same w (codes "shortened")
    || (same w (codes "variant") || (same w (codes "clear") || (same w (codes "zero"))))))))))

-- words of a text for one project, or of what it asks besides
abbrev pub names_a_holder : List ℕ → Bool
names_a_holder w =
    same w (codes "netbsd") || (same w (codes "freebsd") || (same w (codes "openbsd")
    || (same w (codes "patent") || (same w (codes "attribution") || (same w (codes "advertising")
    || (same w (codes "acknowledgement") || (same w (codes "nuclear") || (same w (codes "views")
    || (same w (codes "protection"))))))))))

-- words of an exception or a limit
abbrev pub names_a_limit : List ℕ → Bool
names_a_limit w =
    same w (codes "classpath") || (same w (codes "exception") || (same w (codes "font")
    || (same w (codes "invariants") ||
    (same w (codes "commercial") || (same w (codes "noncommercial")
    || (same w (codes "derivatives") || (same w (codes "sharealike"))))))))

-- a word that makes another licence of one, as `Affero` does: by them the licences of a family
-- differ
abbrev pub is_telling : List ℕ → Bool
is_telling w = names_another w || (names_an_age w || (names_a_holder w || names_a_limit w))

-- the word tells nothing, or is one of either text
abbrev pub is_kept : List ℕ → List ℕ → List ℕ → Bool
is_kept name full_name w = not (is_telling w) || (has_word name w || has_word full_name w)

-- each telling word of the phrase is one of either text
abbrev pub keeps_telling : List ℕ → List ℕ → List ℕ → Bool
keeps_telling name full_name phrase =
    list_all (λ p. is_kept name full_name (word p)) (pieces phrase)
