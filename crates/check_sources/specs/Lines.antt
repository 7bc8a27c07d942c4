-- What is shown of the line that a place in a file is in.
use Rattle.std.specs.Prelude.{ℕ, ◌+◌, ◌-◌, ◌==◌, min, Bool, not, ◌||◌, List, ◌++◌, length, take, drop}
use Rattle.std.specs.Char.{is_ascii_whitespace}
use Rattle.std.specs.List.{prefix_len}
use Rattle.std.specs.Str.Lossy.{utf8_lossy}
use Rattle.text_places.specs.Places.{column_of, line_before, newline_count}
use Rattle.finding_forms.specs.Finding.{Seen}

-- a place in a file; one past the end counts as the end
abbrev pub within : List ℕ → ℕ → ℕ
within bytes at = min at (length bytes)

-- the number of the line that a place is in, from 1
abbrev pub line_of : List ℕ → ℕ → ℕ
line_of bytes at = newline_count (take at bytes) + 1

-- how many bytes of a line are shown before a place, and how many from it on, at most
abbrev pub most : ℕ
most = 200

-- without the white space at their front
abbrev pub unindented : List ℕ → List ℕ
unindented bytes = drop (prefix_len is_ascii_whitespace bytes) bytes

-- the last of these, so many at most
abbrev pub last_of : ℕ → List ℕ → List ℕ
last_of n bytes = drop (length bytes - n) bytes

-- a line ends before a newline and before a carriage return
abbrev pub ends_line : ℕ → Bool
ends_line b = b == 10 || b == 13

-- the first line of these
abbrev pub line_at : List ℕ → List ℕ
line_at bytes = take (prefix_len (λ b. not (ends_line b)) bytes) bytes

-- what is shown of the line before a place, and from it on: the first line of the bytes there
abbrev pub front_of : List ℕ → ℕ → List ℕ
front_of bytes at = last_of most (unindented (line_before bytes at))

abbrev pub rest_of : List ℕ → ℕ → List ℕ
rest_of bytes at = let behind = drop at bytes in line_at (take (min (length behind) most) behind)

-- what is shown of a part of a file that begins there and has so many bytes, and of the line behind
-- it
abbrev pub marked_of : List ℕ → ℕ → ℕ → List ℕ
marked_of bytes at len = let rest = rest_of bytes at in take (min len (length rest)) rest

abbrev pub tail_of : List ℕ → ℕ → ℕ → List ℕ
tail_of bytes at len = let rest = rest_of bytes at in drop (min len (length rest)) rest

-- the three, with U+FFFD for what is no text
abbrev pub shown_text : List ℕ → ℕ → ℕ → List ℕ
shown_text bytes at len =
    utf8_lossy (front_of bytes at) ++
    (utf8_lossy (marked_of bytes at len) ++ utf8_lossy (tail_of bytes at len))

-- how a part of a file is seen: its line, its column, and what is shown of the line with the part
-- in it
abbrev pub seen_at : List ℕ → ℕ → ℕ → Seen
seen_at bytes at len =
    let start = length (utf8_lossy (front_of bytes at)) in
    record {
      line = line_of bytes at;
      column = column_of bytes at;
      text = shown_text bytes at len;
      start = start;
      end = start + length (utf8_lossy (marked_of bytes at len));
    }
