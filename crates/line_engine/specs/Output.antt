-- The output for an input, and its counts.
use Rattle.std.specs.Prelude.{ℕ, ◌-◌, ◌^◌, ◌+◌, min, if◌then◌else◌, Bool, true, false, List, [], ◌∷◌, ◌++◌, length, count_by}
use Rattle.line_engine.specs.declared.lines.Summary.{Summary}
use Rattle.line_engine.specs.Rule.{Rule}
use Rattle.line_engine.specs.Lines.{cut, lines_of}

-- what is written for lines that stand behind these
abbrev pub text_from : Rule → List (List ℕ) → List (List ℕ) → List ℕ
text_from rule before [] = []
text_from rule before (line ∷ lines) =
    rule.text before line ++ text_from rule (before ++ line ∷ []) lines

-- what is written for all lines
abbrev pub text_of : Rule → List (List ℕ) → List ℕ
text_of rule lines = text_from rule [] lines

-- what is written for an input that has ended
abbrev pub output_of : Rule → List ℕ → List ℕ
output_of rule bytes = text_of rule (lines_of bytes) ++ rule.closing (lines_of bytes)

-- what may be written once these bytes are read: all of it if they are the whole input, else the
-- answers to the lines that are whole
abbrev pub output_so_far : Rule → List ℕ → Bool → List ℕ
output_so_far rule bytes true = output_of rule bytes
output_so_far rule bytes false = text_of rule (cut bytes).whole

-- a count stays at its greatest value
abbrev pub capped : ℕ → ℕ
capped n = min n (2 ^ 64 - 1)

-- how many lines there are, and how many of them are refused
abbrev pub summary_of : Rule → List (List ℕ) → Summary
summary_of rule lines =
    record { lines = capped (length lines); refused = capped (count_by rule.refuses lines) }

-- one more line is counted, and if it is refused also among the refused ones
abbrev pub count_line : Summary → Bool → Summary
count_line summary is_refused = record {
  lines = capped (summary.lines + 1);
  refused = if is_refused then capped (summary.refused + 1) else summary.refused;
}
