-- The unified diff of two texts, line by line.
use Rattle.std.specs.Prelude.{◌≡◌, ◌<◌, ℕ, ◌+◌, ◌-◌, Bool, false, not, ◌&&◌, ◌==◌, nat_eq, nat_lt, List, [], ◌∷◌, ◌++◌, length, take, drop, codes, count_by, slice_index_or, if◌then◌else◌}
use Rattle.std.specs.List.{flat_map, list_any, prefix_len, range_with_len, ends_with}
use Rattle.std.specs.Str.{bytes_eq}
use Rattle.std.specs.Fmt.{decimal}
use Rattle.foreign_text.specs.Names.{header_name, HeaderReadsBack}
use Rattle.line_diff.specs.declared.rows.Row.{Row}

-- the lines at one place of two texts, with their newlines; empty where a text has no line there
pub record Pair : Type 0 where
  pub old : List ℕ
  pub new : List ℕ

abbrev pub pair : List ℕ → List ℕ → Pair
pair old new = record { old = old; new = new }

-- what a row of the program stands for
abbrev pub pair_of : Row → Pair
pair_of r = pair r.old.now r.new.now

abbrev pub onto_first : ℕ → List (List ℕ) → List (List ℕ)
onto_first b [] = (b ∷ []) ∷ []
onto_first b (line ∷ lines) = (b ∷ line) ∷ lines

-- the lines of a text with their newlines, which the last may lack
abbrev pub whole_lines : List ℕ → List (List ℕ)
whole_lines [] = []
whole_lines (b ∷ bs) = if b == 10 then (b ∷ []) ∷ whole_lines bs else onto_first b (whole_lines bs)

abbrev pub pairs : List (List ℕ) → List (List ℕ) → List Pair
pairs [] [] = []
pairs [] (n ∷ new) = pair [] n ∷ pairs [] new
pairs (o ∷ old) [] = pair o [] ∷ pairs old []
pairs (o ∷ old) (n ∷ new) = pair o n ∷ pairs old new

abbrev pub rows_of : List ℕ → List ℕ → List Pair
rows_of old new = pairs (whole_lines old) (whole_lines new)

abbrev pub is_changed : Pair → Bool
is_changed r = not (bytes_eq r.old r.new)

-- a changed row stands at most three rows away
abbrev pub is_shown : List Pair → ℕ → Bool
is_shown rows i = list_any is_changed (take (i + 4 - (i - 3)) (drop (i - 3) rows))

-- how many rows are shown from one on, without a gap
abbrev pub hunk_len : List Pair → ℕ → ℕ
hunk_len rows i = prefix_len (is_shown rows) (range_with_len i (length rows - i))

-- where a hunk begins in a text, counted from 1, where it has lines there, and how many
unfoldable pub range_text : ℕ → ℕ → List ℕ
range_text i count = decimal (if count == 0 then i else i + 1) ++ (codes "," ++ decimal count)

abbrev pub has_old : Pair → Bool
has_old r = not (length r.old == 0)

abbrev pub has_new : Pair → Bool
has_new r = not (length r.new == 0)

-- the line before a hunk
unfoldable pub hunk_head : List Pair → ℕ → List ℕ
hunk_head rows i =
    let hunk = take (hunk_len rows i) (drop i rows) in
    codes "@@ -" ++ (range_text i (count_by has_old hunk) ++
    (codes " +" ++ (range_text i (count_by has_new hunk) ++ codes " @@\n")))

-- a line behind its mark, and a word on a last line that has no newline
unfoldable pub line_text : ℕ → List ℕ → List ℕ
line_text mark line =
    if length line == 0 then []
    else mark ∷ (line ++
    (if ends_with nat_eq line (10 ∷ []) then [] else codes "\n\\ No newline at end of file\n"))

-- a line that stays behind a blank; else the old one behind `-`, and then the new one behind `+`
abbrev pub row_text : Pair → List ℕ
row_text r = if is_changed r then line_text 45 r.old ++ line_text 43 r.new else line_text 32 r.old

-- what the diff has of a row: nothing if it isn't shown; the first of a hunk stands behind its head
abbrev pub shown_text : List Pair → ℕ → List ℕ
shown_text rows i =
    if is_shown rows i
    then (if nat_lt 0 i && is_shown rows (i - 1) then [] else hunk_head rows i) ++
    row_text (slice_index_or rows i (pair [] []))
    else []

-- the file as the old text has it, and as the new one does
abbrev pub old_name : List ℕ → List ℕ
old_name name = codes "a/" ++ name

abbrev pub new_name : List ℕ → List ℕ
new_name name = codes "b/" ++ name

-- the lines before the hunks
unfoldable pub names_text : List ℕ → List ℕ
names_text name =
    codes "--- " ++ (header_name (old_name name) ++ (codes "+++ " ++ header_name (new_name name)))

-- whatever follows them, git reads the two lines as the names of this file
pub record NamesThisFile (name : List ℕ) : Type 0 where
  pub old : HeaderReadsBack (old_name name)
  pub new : HeaderReadsBack (new_name name)

-- Each text is its side of the rows, one behind another; and a row that isn't shown is the same in
-- both. So whoever puts the new side of the shown rows in the place of their old side has made the
-- new text of the old one.
pub record AreTheTexts (old new : List ℕ) (rows : List Pair) : Type 0 where
  pub old_side : flat_map (λ (r : Pair). r.old) rows ≡ old
  pub new_side : flat_map (λ (r : Pair). r.new) rows ≡ new
  pub hidden_are_same : (i : ℕ) → i < length rows → is_shown rows i ≡ false →
      is_changed (slice_index_or rows i (pair [] [])) ≡ false

-- the diff of two texts
abbrev pub diff_of : List ℕ → List Pair → List ℕ
diff_of name rows =
    if list_any is_changed rows then names_text name ++
    flat_map (shown_text rows) (range_with_len 0 (length rows)) else []
