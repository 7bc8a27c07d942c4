-- A refused package as a line.
use Rattle.std.specs.Prelude.{ℕ, List, [], ◌∷◌, ◌++◌, codes, if◌then◌else◌}
use Rattle.foreign_text.specs.declared.sinks.Sink.TheVariants.{Line, Command, Property}
use Rattle.gate_forms.specs.declared.reports.Report.{Report}
use Rattle.foreign_text.specs.Written.{text_for}
use Rattle.gate_forms.specs.Report.{is_refused, message_text}

abbrev pub short_line : Report → List ℕ
short_line r = text_for Line r.file.now ++ (codes ": " ++ (message_text Line r ++ 10 ∷ []))

abbrev pub short_text : Report → List ℕ
short_text r = if is_refused r.verdict then short_line r else []

abbrev pub github_line : Report → List ℕ
github_line r =
    codes "::error file=" ++
    (text_for Property r.file.now ++ (codes "::" ++ (message_text Command r ++ 10 ∷ [])))

abbrev pub github_text : Report → List ℕ
github_text r = if is_refused r.verdict then github_line r else []
