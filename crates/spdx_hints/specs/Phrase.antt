-- The phrase round a place of a text.
use Rattle.std.specs.Prelude.{ℕ, zero, suc, ◌+◌, ◌-◌, Bool, true, false, ◌||◌, ◌&&◌, ◌==◌, nat_le, List, length, take, drop, min, max, slice_get, slice_range, if◌then◌else◌, codes}
use Rattle.std.specs.List.{prefix_len, suffix_len}
use Rattle.std.specs.Option.{option_map_or}
use Rattle.std.specs.Char.{is_ascii_whitespace}
use Rattle.spdx_hints.specs.Words.{same}

abbrev pub is_parenthesis : ℕ → Bool
is_parenthesis b = b == 40 || b == 41

-- what stands between words
abbrev pub is_gap : ℕ → Bool
is_gap b = is_ascii_whitespace b || is_parenthesis b

-- the text ends there, or a gap begins
abbrev pub has_gap : List ℕ → ℕ → Bool
has_gap text i = option_map_or is_gap (slice_get text i) true

-- this word stands at the head of the text, whatever the case of ASCII letters, and ends there
abbrev pub begins_with_word : List ℕ → List ℕ → Bool
begins_with_word w text =
    nat_le (length w) (length text) && (same (take (length w) text) w && has_gap text (length w))

-- the length of the operator that the text begins with, and 0 if it begins with none
abbrev pub operator_len : List ℕ → ℕ
operator_len text =
    if begins_with_word (codes "AND") text then 3
    else if begins_with_word (codes "OR") text then 2
    else if begins_with_word (codes "WITH") text then 4
    else 0

-- no word is cut in two there
abbrev pub begins_word : List ℕ → ℕ → Bool
begins_word text i = i == 0 || has_gap text (i - 1)

abbrev pub has_parenthesis : List ℕ → ℕ → Bool
has_parenthesis text i = option_map_or is_parenthesis (slice_get text i) false

-- the length of the parenthesis or the operator word that stands there, and 0 if none does
abbrev pub break_len : List ℕ → ℕ → ℕ
break_len text i =
    if has_parenthesis text i then 1 else if begins_word text i then operator_len (drop i text)
    else 0

-- the end of the last of these that begins before that place, and 0 if none does
abbrev pub last_break : List ℕ → ℕ → ℕ
last_break text zero = 0
last_break text (suc i) = if break_len text i == 0 then last_break text i else i + break_len text i

-- the first place from there on, of so many, where one begins, or the place behind them all
abbrev pub next_break : List ℕ → ℕ → ℕ → ℕ
next_break text zero i = i
next_break text (suc count) i = if break_len text i == 0 then next_break text count (i + 1) else i

-- from there to the next one or the text's end
abbrev pub end_from : List ℕ → ℕ → ℕ
end_from text i = next_break text (length text - i) i

-- what stands between those before and behind the place
abbrev pub around : List ℕ → ℕ → List ℕ
around text i = slice_range text (last_break text i) (end_from text (max (last_break text i) i))

abbrev pub less_blanks_behind : List ℕ → List ℕ
less_blanks_behind text = take (length text - suffix_len is_ascii_whitespace text) text

-- without the blanks round about
abbrev pub trimmed : List ℕ → List ℕ
trimmed text = less_blanks_behind (drop (prefix_len is_ascii_whitespace text) text)

-- the phrase at a place; one behind the text counts as its end
unfoldable pub phrase_of : List ℕ → ℕ → List ℕ
phrase_of text i = trimmed (around text (min i (length text)))
