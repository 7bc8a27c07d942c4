-- What is written of a text, by where it goes.
use Rattle.std.specs.Prelude.{ℕ, ◌/◌, ◌%◌, List, [], ◌∷◌, ◌++◌, Bool, true, false, ◌||◌, ◌==◌, if◌then◌else◌, chars, codes, encode_utf8, flat_map}
use Rattle.std.specs.Int.{is_in_range}
use Rattle.std.specs.Fmt.{digits}
use Rattle.foreign_text.specs.declared.sinks.Sink.{Sink}
use Rattle.foreign_text.specs.declared.sinks.Sink.TheVariants.{Line, Lines, Command, Property, Path, Message}
use Rattle.foreign_text.specs.Hidden.{is_hidden}

-- a character by its number, as `\u{1b}`
abbrev pub numbered : ℕ → List ℕ
numbered c = codes "\\u{" ++ (digits 16 false c ++ codes "}")

-- in a line: what is not shown stands as its number, and a backslash as two
abbrev pub visible : ℕ → List ℕ
visible c = if c == 92 then codes "\\\\" else if is_hidden c then numbered c else encode_utf8 c

-- in lines: so too, but for the newline
abbrev pub visible_in_lines : ℕ → List ℕ
visible_in_lines c = if c == 10 then 10 ∷ [] else visible c

-- a percent sign, and the two hexadecimal digits of a byte
abbrev pub percent : ℕ → List ℕ
percent b = 37 ∷ (digits 16 true (b / 16) ++ digits 16 true (b % 16))

abbrev pub percents : ℕ → List ℕ
percents c = flat_map percent (encode_utf8 c)

-- `%` and the newline
abbrev pub is_command_mark : ℕ → Bool
is_command_mark c = (c == 37) || (c == 10)

-- besides, `:` and `,`
abbrev pub is_property_mark : ℕ → Bool
is_property_mark c = is_command_mark c || (c == 58) || (c == 44)

-- letters, digits, `-`, `.`, `_`, `~` and the slash between the names of a path
abbrev pub is_path_char : ℕ → Bool
is_path_char c =
    is_in_range 65 90 c || is_in_range 97 122 c || is_in_range 45 57 c || (c == 95) || (c == 126)

-- braces twice, brackets and backslashes behind a backslash
abbrev pub message_char : ℕ → List ℕ
message_char c =
    if c == 123 then codes "{{"
    else if c == 125 then codes "}}"
    else if c == 91 then codes "\\["
    else if c == 93 then codes "\\]"
    else if c == 92 then codes "\\\\"
    else encode_utf8 c

abbrev pub char_for : Sink → ℕ → List ℕ
char_for Line c = visible c
char_for Lines c = visible_in_lines c
char_for Command c = if is_command_mark c then percent c else visible c
char_for Property c = if is_property_mark c then percent c else visible c
char_for Path c = if is_path_char c then encode_utf8 c else percents c
char_for Message c = message_char c

-- the text as a sink may have it
abbrev pub text_for : Sink → List ℕ → List ℕ
text_for sink text = flat_map (char_for sink) (chars text)
