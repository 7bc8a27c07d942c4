-- Where the values of a field stand in a file.
use Rattle.std.specs.Prelude.{ℕ, ◌+◌, Bool, true, false, ◌&&◌, ◌||◌, ◌==◌, not, nat_eq, List, [], ◌∷◌, ◌++◌, Option, None, Some, option_map, length, drop, if◌then◌else◌}
use Rattle.std.specs.Prelude.{◌-◌}
use Rattle.std.specs.List.{starts_with}
use Rattle.std.specs.Option.{option_to_list}
use Rattle.line_engine.specs.Lines.{lines_of}
use Rattle.text_places.specs.declared.Span.{Span}
use Rattle.text_places.specs.declared.field_lines.Grammar.{Grammar}
use Rattle.text_places.specs.declared.field_lines.Notation.{Notation}
use Rattle.text_places.specs.declared.field_lines.Notation.TheVariants.{Yaml}
use Rattle.text_places.specs.declared.places.Place.{Place}
use Rattle.text_places.specs.declared.places.Place.TheVariants.{Outside, Fields, Items, InList}
use Rattle.text_places.specs.Names.{behind_blanks, begins_comment, field_text, item_text}
use Rattle.text_places.specs.Texts.{opening, has_quotes, scalar, span_at, listed}

-- where the values of a line stand, and where the next line stands
pub record Read : Type 0 where
  pub values : List Span
  pub place : Place

-- a list's text that ends at this place: the next line is one of the list if it goes on
abbrev pub list_read : Grammar → ℕ → List ℕ → Read
list_read g end text =
    let l = listed g end 0 text in
    record { values = l.values; place = if l.is_open then InList else Fields }

-- the one value that a text which ends at this place may begin with
abbrev pub scalar_read : Grammar → ℕ → List ℕ → Place → Read
scalar_read g end text place =
    record {
      values = option_to_list
          (option_map (span_at (end - length text)) (scalar g false text));
      place = place;
    }

-- only YAML has items
abbrev pub has_items : Notation → Bool
has_items Yaml = true
has_items _ = false

-- the text begins a list
abbrev pub begins_list : Notation → List ℕ → Bool
begins_list notation [] = false
begins_list notation (b ∷ bs) = has_quotes notation && b == opening notation

-- nothing stands on the line but a comment
abbrev pub is_passed : Grammar → List ℕ → Bool
is_passed g line =
    length (behind_blanks line) == 0 || begins_comment g.comment.now (behind_blanks line)

-- the text behind a field's separator, which ends at this place
abbrev pub text_read : Grammar → ℕ → List ℕ → Read
text_read g end text =
    if begins_list g.notation text then list_read g end (drop 1 text)
    else (if has_items g.notation && is_passed g text then record { values = []; place = Items }
    else scalar_read g end text Fields)

-- a line of the field, or one that has nothing to do with it
abbrev pub field_read : Grammar → ℕ → Option (List ℕ) → Read
field_read g end None = record { values = []; place = Fields }
field_read g end (Some text) = text_read g end text

-- an item, or else a line of fields
abbrev pub item_read : Grammar → ℕ → List ℕ → Option (List ℕ) → Read
item_read g end line None = field_read g end (field_text g line)
item_read g end line (Some text) = scalar_read g end text Items

-- a line that is not passed over
abbrev pub place_read : Grammar → Place → ℕ → List ℕ → Read
place_read g Outside end line = record { values = []; place = Outside }
place_read g Fields end line = field_read g end (field_text g line)
place_read g Items end line = item_read g end line (item_text line)
place_read g InList end line = list_read g end line

-- nothing stands on the line, but for the carriage return of its end
abbrev pub is_empty_line : List ℕ → Bool
is_empty_line [] = true
is_empty_line (b ∷ []) = b == 13
is_empty_line (b ∷ c ∷ bs) = false

-- the form has sections, and the line begins one
abbrev pub begins_section : List ℕ → List ℕ → Bool
begins_section section line = not (length section == 0) && starts_with nat_eq line (91 ∷ [])

-- a line that stands at this place in the file and ends at this offset
abbrev pub line_read : Grammar → Place → ℕ → List ℕ → Read
line_read g place end line =
    if g.is_header && is_empty_line line then record { values = []; place = Outside }
    else (if begins_section g.section.now line
    then record {
      values = [];
      place = if starts_with nat_eq line g.section.now then Fields else Outside;
    }
    else (if is_passed g line then record { values = []; place = place }
    else place_read g place end line))

-- the values in these lines, the first of which stands at this place and begins at this offset
abbrev pub fields_from : Grammar → Place → ℕ → List (List ℕ) → List Span
fields_from g place offset [] = []
fields_from g place offset (line ∷ lines) =
    let r = line_read g place (offset + length line) line in
    r.values ++ fields_from g r.place (offset + (length line + 1)) lines

-- a form without sections has its fields from the first line on
abbrev pub first_place : Grammar → Place
first_place g = if length g.section.now == 0 then Fields else Outside

-- the places of the field's values in a file
abbrev pub fields_of : Grammar → List ℕ → List Span
fields_of g bytes = fields_from g (first_place g) 0 (lines_of bytes)
