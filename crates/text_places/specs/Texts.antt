-- The values in the text behind a separator, and in lists.
use Rattle.std.specs.Prelude.{ℕ, zero, suc, ◌+◌, ◌-◌, ◌≤◌, ◌<◌, Bool, true, false, ◌&&◌, ◌||◌, ◌==◌, not, nat_eq, List, [], ◌∷◌, Option, None, Some, length, take, drop, if◌then◌else◌}
use Rattle.std.specs.List.{starts_with, prefix_len, suffix_len}
use Rattle.std.specs.Char.{is_ascii_whitespace}
use Rattle.text_places.specs.declared.Span.{Span}
use Rattle.text_places.specs.declared.field_lines.Grammar.{Grammar}
use Rattle.text_places.specs.declared.field_lines.Notation.{Notation}
use Rattle.text_places.specs.declared.field_lines.Notation.TheVariants.{Line, Yaml, Shell, Quoted}
use Rattle.text_places.specs.declared.texts.Extent.{Extent}
use Rattle.text_places.specs.declared.texts.Piece.{Piece}
use Rattle.text_places.specs.declared.texts.Piece.TheVariants.{Gap, Value, End}
use Rattle.text_places.specs.Names.{begins_comment}

-- what a list begins with: `(` in a shell, `[` elsewhere
abbrev pub opening : Notation → ℕ
opening Shell = 40
opening _ = 91

-- what a list ends with: `)` in a shell, `]` elsewhere
abbrev pub closing : Notation → ℕ
closing Shell = 41
closing _ = 93

-- quotes and brackets mean something, but for values that are all of their line
abbrev pub has_quotes : Notation → Bool
has_quotes Line = false
has_quotes _ = true

-- `"` or `'`
abbrev pub is_quote : ℕ → Bool
is_quote b = b == 34 || b == 39

-- a value without quotes may begin with this byte; in YAML not with `|`, `>`, `&`, `*`, `!`, `{`
-- and `[`
abbrev pub is_plain : Notation → ℕ → Bool
is_plain Line b = true
is_plain Yaml b = not (b == 124 || b == 62 || b == 38 || b == 42 || b == 33 || b == 123 || b == 91)
is_plain Shell b = true
is_plain Quoted b = false

-- a value without quotes ends before this byte, behind which these stand: in YAML before a blank
-- and a comment, and in a list before `,` and `]`; in a shell before a blank, `)`, `;` and a
-- backslash
abbrev pub ends_plain : Notation → List ℕ → Bool → ℕ → List ℕ → Bool
ends_plain Line mark is_listed b bs = false
ends_plain Yaml mark is_listed b bs =
    (is_listed && (b == 44 || b == 93)) || (is_ascii_whitespace b && begins_comment mark bs)
ends_plain Shell mark is_listed b bs = is_ascii_whitespace b || b == 41 || b == 59 || b == 92
ends_plain Quoted mark is_listed b bs = false

-- how many bytes stand before the end of a value without quotes
abbrev pub plain_len : Grammar → Bool → List ℕ → ℕ
plain_len g is_listed [] = 0
plain_len g is_listed (b ∷ bs) =
    if ends_plain g.notation g.comment.now is_listed b bs then 0 else 1 + plain_len g is_listed bs

-- how long it is without the blanks at its end
abbrev pub trimmed_len : List ℕ → ℕ
trimmed_len text = length text - suffix_len is_ascii_whitespace text

-- how many bytes stand before the first such quote or backslash
abbrev pub quoted_len : ℕ → List ℕ → ℕ
quoted_len quote bs = prefix_len (λ b. not (b == quote) && not (b == 92)) bs

-- the value behind a quote, up to the next such quote; none without one, or with a backslash before
-- it
abbrev pub quoted : ℕ → List ℕ → Option Extent
quoted quote bs =
    let len = quoted_len quote bs in
    if starts_with nat_eq (drop len bs) (quote ∷ [])
    then Some (record { before = 1; len = len; read = len + 2 }) else None

-- the value without quotes that this text is or begins with, of its first byte and those behind it
abbrev pub plain : Grammar → Bool → List ℕ → List ℕ → Extent
plain g is_listed text bs =
    let read = 1 + plain_len g is_listed bs in
    record { before = 0; len = trimmed_len (take read text); read = read }

-- the value at the front of a text, in a list or not
abbrev pub scalar : Grammar → Bool → List ℕ → Option Extent
scalar g is_listed [] = None
scalar g is_listed (b ∷ bs) =
    if has_quotes g.notation && is_quote b then quoted b bs
    else (if is_plain g.notation b && not (begins_comment g.comment.now (b ∷ bs))
    then Some (plain g is_listed (b ∷ bs) bs) else None)

-- a value and what is read of the text lie within so many bytes
pub record IsWithin (len : ℕ) (s : Extent) : Type 0 where
  pub some : 0 < s.read
  pub value : s.before + s.len ≤ s.read
  pub read : s.read ≤ len

-- the same of a value among the pieces
abbrev pub IsPieceWithin : ℕ → Piece → Type 0
IsPieceWithin len Gap = Unit {0}
IsPieceWithin len (Value s) = IsWithin len s
IsPieceWithin len (End is_open) = Unit {0}

-- among values that all have quotes any other byte of a list means nothing, as in `"MIT".freeze`
abbrev pub passes_over : Notation → ℕ → Bool
passes_over Quoted b = not (is_quote b)
passes_over _ b = false

-- where no value stands its byte is passed over or ends the list
abbrev pub value_or_end : Bool → Option Extent → Piece
value_or_end is_gap None = if is_gap then Gap else End false
value_or_end is_gap (Some s) = Value s

-- what stands at the front of a list's text, which begins with this byte
abbrev pub next_piece : Grammar → ℕ → List ℕ → Piece
next_piece g b text =
    if is_ascii_whitespace b || b == 44 then Gap
    else (if begins_comment g.comment.now text then End true
    else (if b == closing g.notation then End false
    else value_or_end (passes_over g.notation b) (scalar g true text)))

-- where the value at the front of a text that begins there stands
abbrev pub span_at : ℕ → Extent → Span
span_at start s = record { start = start + s.before; end = start + (s.before + s.len) }

-- where the values of a list stand, and whether it goes on in the next line
pub record Listed : Type 0 where
  pub values : List Span
  pub is_open : Bool

-- the values from a piece on that stands there, by what is listed behind its first byte where so
-- many more are read
abbrev pub listed_by : ℕ → (ℕ → Listed) → Piece → Listed
listed_by start later Gap = later 0
listed_by start later (Value s) =
    record {
      values = span_at start s ∷ (later (s.read - 1)).values;
      is_open = (later (s.read - 1)).is_open;
    }
listed_by start later (End is_open) = record { values = []; is_open = is_open }

-- the values in the text of a list that ends at this place, of which so many bytes are read already
abbrev pub listed : Grammar → ℕ → ℕ → List ℕ → Listed
listed g end skip [] = record { values = []; is_open = true }
listed g end (suc skip) (b ∷ bs) = listed g end skip bs
listed g end zero (b ∷ bs) =
    listed_by (end - length (b ∷ bs)) (λ skip. listed g end skip bs) (next_piece g b (b ∷ bs))
