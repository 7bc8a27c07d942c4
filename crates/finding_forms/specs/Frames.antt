-- A finding's text round the number of its line, which alone differs between the findings of one
-- expression in one file.
use Rattle.std.specs.Prelude.{◌≡◌, ℕ, List, [], ◌∷◌, ◌++◌, Bool, true, false, codes, decimal, string_bytes}
use Rattle.foreign_text.specs.declared.sinks.Sink.TheVariants.{Line}
use Rattle.finding_forms.specs.declared.forms.Style.{Style}
use Rattle.finding_forms.specs.declared.forms.Format.{Format}
use Rattle.finding_forms.specs.declared.forms.Format.TheVariants.{Human, Short, Json, Github, Sarif}
use Rattle.finding_forms.specs.declared.text.frames.Frame.{Frame}
use Rattle.foreign_text.specs.Written.{text_for}
use Rattle.finding_forms.specs.Finding.{Told}
use Rattle.finding_forms.specs.Message.{message_text}
use Rattle.finding_forms.specs.Excerpt.{excerpt_line}
use Rattle.finding_forms.specs.Forms.{caret_line, finding_text, help_line, reason_text}
use Rattle.finding_forms.specs.Paint.{bold, paint_begins, paint_ends}

-- the same finding in another line
abbrev pub on_line : Told → ℕ → Told
on_line t line = record t { line = line; seen = record t.seen { line = line } }

-- the frame with a number in it
abbrev pub framed : Frame → ℕ → List ℕ
framed frame line = string_bytes frame.before ++ (decimal line ++ string_bytes frame.behind)

-- with the number of any line in it the frame is the finding's text in that line
abbrev pub IsFrame : Format → Told → Frame → Type 0
IsFrame format t frame =
    (is_first : Bool) (line : ℕ) → finding_text format is_first (on_line t line) ≡ framed frame line

-- the forms whose findings have a frame
abbrev pub has_frame : Format → Bool
has_frame (Human style) = true
has_frame Short = true
has_frame Json = false
has_frame Github = false
has_frame Sarif = false

-- ---- what stands before the number and behind it. Only private clauses cite it.

abbrev pub before_human : Style → List ℕ → List ℕ
before_human style file = paint_begins style bold ++ (text_for Line file ++ 58 ∷ [])

-- the column of the fault, and the end of the place
abbrev pub column_human : Style → Told → List ℕ
column_human style t = 58 ∷ (decimal t.seen.column ++ paint_ends style)

abbrev pub behind_human : Style → Told → List ℕ
behind_human style t =
    column_human style t ++
    (reason_text style t ++
    (excerpt_line t.seen.text t.seen.start ++
    (caret_line style t.seen ++ help_line style t.aid)))

abbrev pub before_short : List ℕ → List ℕ
before_short file = text_for Line file ++ 58 ∷ []

abbrev pub behind_short : Told → List ℕ
behind_short t = 58 ∷ (decimal t.seen.column ++ (codes ": " ++ (message_text Line t ++ 10 ∷ [])))
