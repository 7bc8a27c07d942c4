-- An expression that is written in a file, and where its fault is marked there.
use Rattle.std.specs.Prelude.{ℕ, ◌+◌, ◌-◌, min, List, bytes_eq, length, take, drop, if◌then◌else◌}
use Rattle.spdx_lexer.specs.Words.{Span}
use Rattle.finding_forms.specs.Finding.{Seen, Told}
use Rattle.check_sources.specs.Lines.{line_of, seen_at, within}
use Rattle.text_places.specs.Places.{column_of}
use Rattle.spdx_check.specs.Checking.{Spot, told_by}
use Rattle.spdx_check.specs.Finding.{Wrong}

-- an expression, and where it is written, in bytes of the file: as it is, or with escapes
pub record Written : Type 0 where
  pub start : ℕ
  pub end : ℕ
  pub text : List ℕ

-- the bytes between two places; one past the end counts as the end
abbrev pub slice_in : List ℕ → ℕ → ℕ → List ℕ
slice_in bytes start end =
    let behind = drop (within bytes start) bytes in take (min (end - start) (length behind)) behind

-- the bytes of the file that write it
abbrev pub raw_of : List ℕ → Written → List ℕ
raw_of bytes w = slice_in bytes w.start w.end

-- a part of the file: where it begins, and how long it is
pub record Part : Type 0 where
  pub from : ℕ
  pub len : ℕ

-- all of what is written there
abbrev pub whole_of : Written → Part
whole_of w = record { from = w.start; len = w.end - w.start }

-- the fault of what is written there as it is
abbrev pub fault_in : Written → Span → Part
fault_in w fault =
    let size = w.end - w.start in
    let from = min fault.from size in
    record { from = w.start + from; len = min fault.to size - from }

-- the fault is marked where the expression is written as it is; with escapes it isn't known where
-- it stands, and all is marked
abbrev pub marked_part : List ℕ → Written → Span → Part
marked_part bytes w fault =
    if bytes_eq (raw_of bytes w) w.text then fault_in w fault else whole_of w

-- how a part of the file is seen
abbrev pub part_seen : List ℕ → Part → Seen
part_seen bytes part = seen_at bytes (within bytes part.from) part.len

-- the file, and the line and the column in which the expression begins
abbrev pub spot_in : List ℕ → List ℕ → Written → Spot
spot_in path bytes w = record {
  file = path;
  line = line_of bytes (within bytes w.start);
  column = column_of bytes (within bytes w.start);
}

-- what is told of an expression with something wrong in it
abbrev pub told_in : List ℕ → List ℕ → Written → Wrong → Told
told_in path bytes w wrong =
    told_by (spot_in path bytes w) wrong (part_seen bytes (marked_part bytes w wrong.place))
