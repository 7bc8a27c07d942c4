-- What a reader of unified diffs makes of an old text by the bytes of a diff, as `patch` does where
-- each hunk stands in the place that its head names. Whatever the reader cannot follow gives no
-- text.
use Rattle.std.specs.Prelude.{ℕ, ◌+◌, ◌-◌, Bool, false, ◌&&◌, ◌==◌, nat_eq, nat_lt, nat_le, List, [], ◌∷◌, ◌++◌, length, take, drop, take_while, codes, Option, Some, None, if◌then◌else◌}
use Rattle.std.specs.Char.{is_ascii_digit}
use Rattle.std.specs.Cmp.Lexicographic.{pointwise}
use Rattle.std.specs.List.{concat, starts_with}
use Rattle.std.specs.Option.{option_and_then, option_map}
use Rattle.std.specs.Str.{bytes_eq}
use Rattle.std.specs.Str.Parse.{digits_value}
use Rattle.line_diff.specs.Diff.{whole_lines}

-- ---- the lines of a diff

-- this line says of the line before it that it has no newline
abbrev pub no_newline : List ℕ
no_newline = codes "\\ No newline at end of file\n"

abbrev pub onto_told : List ℕ → List (List ℕ) → List (List ℕ)
onto_told line [] = line ∷ []
onto_told line (next ∷ lines) =
    if bytes_eq next no_newline then take (length line - 1) line ∷ lines else line ∷ (next ∷ lines)

-- the lines of a diff, each without its newline where that is said of it
abbrev pub told_lines : List (List ℕ) → List (List ℕ)
told_lines [] = []
told_lines (line ∷ lines) = onto_told line (told_lines lines)

-- the lines of the hunks, behind the two with the file's names; a diff with no line has none
abbrev pub hunk_lines : List (List ℕ) → Option (List (List ℕ))
hunk_lines [] = Some []
hunk_lines (line ∷ []) = None
hunk_lines (old ∷ (new ∷ lines)) =
    if starts_with nat_eq old (codes "--- ") && starts_with nat_eq new (codes "+++ ")
    then Some (told_lines lines) else None

-- ---- the head of a hunk: `@@ -START,COUNT +START,COUNT @@`

pub record Head : Type 0 where
  pub old_start : ℕ
  pub old_count : ℕ
  pub new_start : ℕ
  pub new_count : ℕ

-- the decimal numbers of a line that has one behind each of these words, and then its end
abbrev pub numbers_behind : List (List ℕ) → List ℕ → Option (List ℕ)
numbers_behind [] text = if bytes_eq text (codes " @@\n") then Some [] else None
numbers_behind (word ∷ words) text =
    let rest = drop (length word) text in
    let digits = take_while is_ascii_digit rest in
    if starts_with nat_eq text word && nat_lt 0 (length digits)
    then option_map (λ (numbers : List ℕ). digits_value 10 digits ∷ numbers)
    (numbers_behind words (drop (length digits) rest))
    else None

abbrev pub head_of : List ℕ → Option Head
head_of (a ∷ (b ∷ (c ∷ (d ∷ [])))) =
    Some (record { old_start = a; old_count = b; new_start = c; new_count = d })
head_of _ = None

abbrev pub read_head : List ℕ → Option Head
read_head line =
    option_and_then head_of
    (numbers_behind (codes "@@ -" ∷ (codes "," ∷ (codes " +" ∷ (codes "," ∷ [])))) line)

-- lines are counted from 1; a hunk with no line of a text names the line before it
abbrev pub start_behind : ℕ → ℕ → ℕ
start_behind lines count = if count == 0 then lines else lines + 1

abbrev pub lines_before : ℕ → ℕ → ℕ
lines_before start count = if count == 0 then start else start - 1

-- ---- the reader

-- where a reader stands
pub record Place : Type 0 where
  -- how many lines of each text lie behind
  pub old_line : ℕ
  pub new_line : ℕ
  -- how many lines of each text the hunk has yet to tell
  pub old_left : ℕ
  pub new_left : ℕ
  -- the lines of the old text that lie ahead, and those of the new text so far
  pub ahead : List (List ℕ)
  pub made : List (List ℕ)

abbrev pub start_of : List ℕ → Place
start_of old =
    record {
      old_line = 0;
      new_line = 0;
      old_left = 0;
      new_left = 0;
      ahead = whole_lines old;
      made = [];
    }

-- the hunk has told as many lines of each text as its head says
abbrev pub is_between_hunks : Place → Bool
is_between_hunks p = (p.old_left == 0) && (p.new_left == 0)

-- the lines up to a hunk are the same in both texts, and in both they lead up to the place that its
-- head names
abbrev pub into_hunk : Place → Head → Option Place
into_hunk p h =
    let same = lines_before h.old_start h.old_count - p.old_line in
    if (start_behind (p.old_line + same) h.old_count == h.old_start)
    && (start_behind (p.new_line + same) h.new_count == h.new_start)
    && nat_le same (length p.ahead)
    then Some (record {
      old_line = p.old_line + same;
      new_line = p.new_line + same;
      old_left = h.old_count;
      new_left = h.new_count;
      ahead = drop same p.ahead;
      made = p.made ++ take same p.ahead;
    })
    else None

abbrev pub is_next : List ℕ → List (List ℕ) → Bool
is_next line [] = false
is_next line (next ∷ lines) = bytes_eq line next

-- a line that the old text must have there
abbrev pub past_old : List ℕ → Place → Option Place
past_old line p =
    if nat_lt 0 p.old_left && is_next line p.ahead
    then Some (record p {
      old_line = p.old_line + 1;
      old_left = p.old_left - 1;
      ahead = drop 1 p.ahead;
    })
    else None

-- a line that the new text has there
abbrev pub past_new : List ℕ → Place → Option Place
past_new line p =
    if nat_lt 0 p.new_left
    then Some (record p {
      new_line = p.new_line + 1;
      new_left = p.new_left - 1;
      made = p.made ++ line ∷ [];
    })
    else None

-- a line of a hunk stands behind a blank in both texts, behind `-` in the old one, and behind `+`
-- in the new one
abbrev pub in_hunk : Place → List ℕ → Option Place
in_hunk p [] = None
in_hunk p (mark ∷ line) =
    if mark == 32 then option_and_then (past_new line) (past_old line p)
    else if mark == 45 then past_old line p
    else if mark == 43 then past_new line p
    else None

abbrev pub read_line : Place → List ℕ → Option Place
read_line p line =
    if is_between_hunks p then option_and_then (into_hunk p) (read_head line) else in_hunk p line

abbrev pub read_lines : Place → List (List ℕ) → Option Place
read_lines p [] = Some p
read_lines p (line ∷ lines) = option_and_then (λ (q : Place). read_lines q lines) (read_line p line)

-- the lines make a text whose lines they are: none but the last lacks its newline
abbrev pub text_of : List (List ℕ) → Option (List ℕ)
text_of lines =
    if pointwise bytes_eq (whole_lines (concat lines)) lines then Some (concat lines) else None

-- what lies ahead behind the last hunk is the same in both texts
abbrev pub text_at : Place → Option (List ℕ)
text_at p = if is_between_hunks p then text_of (p.made ++ p.ahead) else None

-- the text that a diff gives of an old one
abbrev pub applied : List ℕ → List ℕ → Option (List ℕ)
applied diff old =
    option_and_then text_at
    (option_and_then (read_lines (start_of old)) (hunk_lines (whole_lines diff)))
