-- What each sink obeys, and how it reads a text.
use Rattle.std.specs.Prelude.{◌≡◌, ℕ, zero, suc, ◌+◌, ◌*◌, ⊤, List, [], ◌∷◌, ◌++◌, Bool, true, false, not, ◌||◌, ◌&&◌, ◌==◌, nat_lt, if◌then◌else◌, Option, None, Some, chars, codes, encode_utf8}
use Rattle.std.specs.List.{starts_with}
use Rattle.std.specs.Option.{option_map, option_and_then}
use Rattle.std.specs.Char.{digit_value}
use Rattle.foreign_text.specs.declared.sinks.Sink.{Sink}
use Rattle.foreign_text.specs.declared.sinks.Sink.TheVariants.{Line, Lines, Command, Property, Path, Message}
use Rattle.foreign_text.specs.Hidden.{is_hidden}
use Rattle.foreign_text.specs.Written.{is_path_char}

-- ---- what a sink obeys

-- characters that a sink obeys in place of showing them
abbrev pub is_obeyed : Sink → ℕ → Bool
is_obeyed Line c = is_hidden c
is_obeyed Lines c = is_hidden c && not (c == 10)
is_obeyed Command c = is_hidden c
is_obeyed Property c = is_hidden c || (c == 58) || (c == 44)
is_obeyed Path c = not (is_path_char c || (c == 37))
is_obeyed Message c = false

abbrev pub NoneObeyed : Sink → List ℕ → Type 0
NoneObeyed sink [] = ⊤
NoneObeyed sink (c ∷ cs) = (is_obeyed sink c ≡ false) × NoneObeyed sink cs

-- no character of the text is obeyed
abbrev pub IsSafe : Sink → List ℕ → Type 0
IsSafe sink text = NoneObeyed sink (chars text)

-- ---- how a text in a line is read

-- where a reader stands: between characters, behind a backslash, behind its `u`, or in a number
pub data Place : Type 0 where
  between : Place
  behind_backslash : Place
  behind_u : Place
  in_number : ℕ → Place

-- the bytes of a character before the rest, where that can be read
abbrev pub before_rest : List ℕ → Option (List ℕ) → Option (List ℕ)
before_rest bytes rest = option_map (λ (bs : List ℕ). bytes ++ bs) rest

-- a backslash begins `\\`, or `\u{` and hexadecimal digits up to `}`; other bytes are themselves
abbrev pub read_from : Place → List ℕ → Option (List ℕ)
read_from between [] = Some []
read_from between (b ∷ bs) =
    if b == 92 then read_from behind_backslash bs else before_rest (b ∷ []) (read_from between bs)
read_from behind_backslash [] = None
read_from behind_backslash (b ∷ bs) =
    if b == 92 then before_rest (92 ∷ []) (read_from between bs) else if b == 117
    then read_from behind_u bs else None
read_from behind_u [] = None
read_from behind_u (b ∷ bs) = if b == 123 then read_from (in_number 0) bs else None
read_from (in_number n) [] = None
read_from (in_number n) (b ∷ bs) =
    if b == 125 then before_rest (encode_utf8 n) (read_from between bs)
    else if nat_lt (digit_value b) 16 then read_from (in_number (n * 16 + digit_value b)) bs
    else None

abbrev pub read_line : List ℕ → Option (List ℕ)
read_line text = read_from between text

-- ---- how a URI is read

-- where a reader stands: between bytes, behind a percent sign, or behind its first digit
pub data Digit : Type 0 where
  no_digit : Digit
  first_digit : Digit
  second_digit : ℕ → Digit

-- a percent sign begins two hexadecimal digits, which are a byte
abbrev pub read_percents : Digit → List ℕ → Option (List ℕ)
read_percents no_digit [] = Some []
read_percents no_digit (b ∷ bs) =
    if b == 37 then read_percents first_digit bs
    else before_rest (b ∷ []) (read_percents no_digit bs)
read_percents first_digit [] = None
read_percents first_digit (b ∷ bs) = read_percents (second_digit (digit_value b)) bs
read_percents (second_digit d) [] = None
read_percents (second_digit d) (b ∷ bs) =
    before_rest ((d * 16 + digit_value b) ∷ []) (read_percents no_digit bs)

abbrev pub read_uri : List ℕ → Option (List ℕ)
read_uri text = read_percents no_digit text

-- ---- how a workflow command is read

abbrev pub begins : List ℕ → List ℕ → Bool
begins bs word = starts_with (λ (x : ℕ) (y : ℕ). x == y) bs word

-- what a command says: `%25`, `%0A` and `%0D`, and in a property `%3A` and `%2C`, are bytes; so
-- many bytes further on
abbrev pub read_marks : Bool → ℕ → List ℕ → List ℕ
read_marks in_property skipped [] = []
read_marks in_property (suc skipped) (b ∷ bs) = read_marks in_property skipped bs
read_marks in_property zero (b ∷ bs) =
    if b == 37 then (
    if begins bs (codes "25") then 37 ∷ read_marks in_property 2 bs
    else if begins bs (codes "0A") then 10 ∷ read_marks in_property 2 bs
    else if begins bs (codes "0D") then 13 ∷ read_marks in_property 2 bs
    else if in_property && begins bs (codes "3A") then 58 ∷ read_marks in_property 2 bs
    else if in_property && begins bs (codes "2C") then 44 ∷ read_marks in_property 2 bs
    else 37 ∷ read_marks in_property 0 bs)
    else b ∷ read_marks in_property 0 bs

-- what it says, shown in lines
abbrev pub read_command : Bool → List ℕ → Option (List ℕ)
read_command in_property text = read_line (read_marks in_property 0 text)

-- ---- how a message of SARIF is read

-- where a reader stands: between characters, or behind a backslash, `{` or `}`
pub data Mark : Type 0 where
  no_mark : Mark
  behind : ℕ → Mark

-- what a mark is read as with the byte behind it: `\\`, `\[`, `\]`, `{{` and `}}` alone are text
abbrev pub read_mark : ℕ → ℕ → Option ℕ
read_mark mark b =
    if mark == 92 then (if (b == 92) || (b == 91) || (b == 93) then Some b else None)
    else if b == mark then Some b else None

-- a bracket with no backslash would begin or end a link, and a single brace a placeholder
abbrev pub read_message_from : Mark → List ℕ → Option (List ℕ)
read_message_from no_mark [] = Some []
read_message_from no_mark (b ∷ bs) =
    if (b == 91) || (b == 93) then None
    else if (b == 92) || (b == 123) || (b == 125) then read_message_from (behind b) bs
    else before_rest (b ∷ []) (read_message_from no_mark bs)
read_message_from (behind mark) [] = None
read_message_from (behind mark) (b ∷ bs) =
    option_and_then (λ (c : ℕ). before_rest (c ∷ []) (read_message_from no_mark bs))
    (read_mark mark b)

abbrev pub read_message : List ℕ → Option (List ℕ)
read_message text = read_message_from no_mark text

-- ---- any sink

-- the text that the sink reads, if it is one
abbrev pub read : Sink → List ℕ → Option (List ℕ)
read Line text = read_line text
read Lines text = read_line text
read Command text = read_command false text
read Property text = read_command true text
read Path text = read_uri text
read Message text = read_message text
