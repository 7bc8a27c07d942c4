-- What stands behind a field's name, or behind the dash of an item.
use Rattle.std.specs.Prelude.{ℕ, Bool, ◌&&◌, ◌==◌, not, nat_eq, List, [], ◌∷◌, Option, None, Some, length, take, drop, if◌then◌else◌}
use Rattle.std.specs.List.{starts_with, prefix_len, list_any}
use Rattle.std.specs.Char.{is_ascii_whitespace}
use Rattle.std.specs.Str.{str_eq_ignore_ascii_case}
use Rattle.text_places.specs.declared.field_lines.Grammar.{Grammar}

abbrev pub is_one_of : List ℕ → ℕ → Bool
is_one_of set b = list_any (λ c. c == b) set

-- what stands behind the blanks at the front
abbrev pub behind_blanks : List ℕ → List ℕ
behind_blanks text = drop (prefix_len is_ascii_whitespace text) text

-- the text begins with this mark of a comment; where the mark is empty there are no comments
abbrev pub begins_comment : List ℕ → List ℕ → Bool
begins_comment mark text = not (length mark == 0) && starts_with nat_eq text mark

-- the text begins with this name, whose letters may be in either case if the flag says so
abbrev pub begins_with_name : List ℕ → Bool → List ℕ → Bool
begins_with_name name is_any_case text =
    if is_any_case then str_eq_ignore_ascii_case (take (length name) text) name
    else starts_with nat_eq text name

-- what stands behind a separator and blanks
abbrev pub behind_separator : List ℕ → List ℕ → Option (List ℕ)
behind_separator separators [] = None
behind_separator separators (b ∷ bs) =
    if is_one_of separators b then Some (behind_blanks bs) else None

-- where these bytes begin with the name: what stands behind it, blanks, a separator and blanks
abbrev pub behind_name : Grammar → List ℕ → Option (List ℕ)
behind_name g text =
    if begins_with_name g.name.now g.is_any_case text
    then behind_separator g.separators.now (behind_blanks (drop (length g.name.now) text))
    else None

-- where the line is one of the field: the text of its value
abbrev pub field_text : Grammar → List ℕ → Option (List ℕ)
field_text g line = behind_name g (drop (prefix_len (is_one_of g.before.now) line) line)

-- what stands behind a dash, a blank and more blanks
abbrev pub behind_dash : List ℕ → Option (List ℕ)
behind_dash (dash ∷ blank ∷ bs) =
    if dash == 45 && is_ascii_whitespace blank then Some (behind_blanks bs) else None
behind_dash bytes = None

-- where the line is an item `- TEXT`: its text
abbrev pub item_text : List ℕ → Option (List ℕ)
item_text line = behind_dash (behind_blanks line)
