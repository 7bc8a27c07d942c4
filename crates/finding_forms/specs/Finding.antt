-- A finding, borrows aside, and where its fault stands.
use Rattle.std.specs.Prelude.{ℕ, ◌+◌, ◌-◌, ◌^◌, min, max, List, take, length, map, Bool, ◌&&◌, ◌||◌, nat_lt, nat_le, if◌then◌else◌, slice_index, slice_range, chars, Option, None, Some}
use Rattle.std.specs.Borrow.{Bor}
use Rattle.finding_forms.specs.declared.findings.Finding.{Finding}
use Rattle.finding_forms.specs.declared.findings.Sight.{Sight}
use Rattle.finding_forms.specs.declared.findings.Help.{Help}
use Rattle.finding_forms.specs.declared.findings.Help.TheVariants.{Nothing, Write, Names, Note}

-- what helps: nothing, the mended text, names that may be meant and a word for the rule that gave
-- them, or a note in words
pub data Aid : Type 0 where
  nothing : Aid
  write : List ℕ → Aid
  names : List (List ℕ) → List ℕ → Aid
  note : List ℕ → Aid

-- where a fault is seen: the number of its line, its column, and a text with the fault from `start`
-- up to `end`
pub record Seen : Type 0 where
  pub line : ℕ
  pub column : ℕ
  pub text : List ℕ
  pub start : ℕ
  pub end : ℕ

-- what is told of an expression that is refused: where it begins, what is wrong in it, and where
-- its fault is seen
pub record Told : Type 0 where
  pub file : List ℕ
  pub line : ℕ
  pub column : ℕ
  pub expression : List ℕ
  pub start : ℕ
  pub end : ℕ
  pub reason : List ℕ
  pub aid : Aid
  pub seen : Seen

-- ---- the parts of a text

abbrev pub begins_character : ℕ → Bool
begins_character b = nat_lt b 128 || nat_le 192 b

-- the place in the text; one that is within a character or past the end stands for the end
abbrev pub place_in : List ℕ → ℕ → ℕ
place_in text at =
    if nat_le at (length text) && begins_character (slice_index text at) then at else length text

-- where a fault ends, which is not before it begins
abbrev pub end_in : List ℕ → ℕ → ℕ → ℕ
end_in text start end = max (place_in text start) (place_in text end)

-- the text before the fault
abbrev pub before_in : List ℕ → ℕ → List ℕ
before_in text start = take (place_in text start) text

-- a column so many characters further on; columns end with those of 64 bits
abbrev pub column_behind : ℕ → List ℕ → ℕ
column_behind column text = min (column + length (chars text)) (2 ^ 64 - 1)

-- where the fault begins in the expression, and where it ends
abbrev pub from_of : Told → ℕ
from_of t = place_in t.expression t.start

abbrev pub to_of : Told → ℕ
to_of t = end_in t.expression t.start t.end

-- what is seen of the fault
abbrev pub fault_of : Told → List ℕ
fault_of t =
    let s = t.seen in slice_range s.text (place_in s.text s.start) (end_in s.text s.start s.end)

-- ---- what a finding tells

abbrev pub aid_of : Help → Aid
aid_of Nothing = nothing
aid_of (Write mended) = write mended.now
aid_of (Names listed rule) = names (map (λ (x : Bor (List ℕ)). x.now) listed.now) rule.now
aid_of (Note words) = note words.now

-- the expression stands in the file as it is
abbrev pub seen_alone : ℕ → ℕ → List ℕ → ℕ → ℕ → Seen
seen_alone line column text start end = record {
  line = line;
  column = column_behind column (before_in text start);
  text = text;
  start = start;
  end = end;
}

abbrev pub seen_of : Sight → Seen
seen_of s = record {
  line = s.line;
  column = s.column;
  text = s.text.now;
  start = s.start;
  end = s.end;
}

-- where the fault is seen; where that isn't said, the expression stands in the file as it is
abbrev pub seen_or : Finding → Option Sight → Seen
seen_or f None = seen_alone f.place.line f.place.column f.expression.now f.start f.end
seen_or f (Some sight) = seen_of sight

abbrev pub seen_in : Finding → Seen
seen_in f = seen_or f f.sight

abbrev pub told : Finding → Told
told f = record {
  file = f.place.file.now;
  line = f.place.line;
  column = f.place.column;
  expression = f.expression.now;
  start = f.start;
  end = f.end;
  reason = f.reason.now;
  aid = aid_of f.help;
  seen = seen_in f;
}
