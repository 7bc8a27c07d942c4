-- A finding in each form.
use Rattle.std.specs.Prelude.{◌≡◌, ℕ, List, [], ◌∷◌, ◌++◌, Bool, if◌then◌else◌, codes, decimal}
use Rattle.foreign_text.specs.declared.sinks.Sink.TheVariants.{Line, Command, Property}
use Rattle.finding_forms.specs.declared.forms.Style.{Style}
use Rattle.finding_forms.specs.declared.forms.Format.{Format}
use Rattle.finding_forms.specs.declared.forms.Format.TheVariants.{Human, Short, Json, Github, Sarif}
use Rattle.foreign_text.specs.Written.{text_for}
use Rattle.finding_forms.specs.Finding.{Aid, Seen, Told}
use Rattle.finding_forms.specs.Excerpt.{carets_under, excerpt_line}
use Rattle.finding_forms.specs.Paint.{bold, cyan, painted, red}
use Rattle.finding_forms.specs.Message.{helps, help_text, message_text, place_text}
use Rattle.finding_forms.specs.Json.{HasNoNewline, json_line}
use Rattle.finding_forms.specs.SarifLog.{sarif_beginning, sarif_ending}
use Rattle.finding_forms.specs.Sarif.{sarif_result}

-- ---- for people

-- what is wrong, to the end of its line
abbrev pub reason_text : Style → Told → List ℕ
reason_text style t =
    codes ": " ++ (painted style red (codes "error") ++
    (codes ": " ++ (text_for Line t.reason ++ 10 ∷ [])))

-- the place, and what is wrong
abbrev pub reason_line : Style → Told → List ℕ
reason_line style t = painted style bold (place_text Line t) ++ reason_text style t

-- carets under the fault
abbrev pub caret_line : Style → Seen → List ℕ
caret_line style s = carets_under style s.text s.start s.end ++ 10 ∷ []

abbrev pub help_line : Style → Aid → List ℕ
help_line style aid =
    if helps aid then codes "  " ++
    (painted style cyan (codes "help") ++ (codes ": " ++ (help_text Line aid ++ 10 ∷ [])))
    else []

abbrev pub human_text : Style → Told → List ℕ
human_text style t =
    reason_line style t ++
    (excerpt_line t.seen.text t.seen.start ++
    (caret_line style t.seen ++ help_line style t.aid))

-- ---- a line each

-- the text has one newline, at its end
abbrev pub IsOneLine : List ℕ → Type 0
IsOneLine text = (line : List ℕ) × (text ≡ line ++ 10 ∷ []) × HasNoNewline line

abbrev pub short_text : Told → List ℕ
short_text t = place_text Line t ++ (codes ": " ++ (message_text Line t ++ 10 ∷ []))

-- the line and the column of an error of a workflow
abbrev pub github_place : Seen → List ℕ
github_place s =
    codes ",line=" ++ (decimal s.line ++ (codes ",col=" ++ (decimal s.column ++ codes "::")))

-- an error of a workflow
abbrev pub github_text : Told → List ℕ
github_text t =
    codes "::error file=" ++
    (text_for Property t.file ++ (github_place t.seen ++ (message_text Command t ++ 10 ∷ [])))

-- ---- any form

-- what stands before all findings
abbrev pub beginning : Format → List ℕ → List ℕ
beginning (Human style) version = []
beginning Short version = []
beginning Json version = []
beginning Github version = []
beginning Sarif version = sarif_beginning version

-- a finding, which may be the first
abbrev pub finding_text : Format → Bool → Told → List ℕ
finding_text (Human style) is_first t = human_text style t
finding_text Short is_first t = short_text t
finding_text Json is_first t = json_line t
finding_text Github is_first t = github_text t
finding_text Sarif is_first t = (if is_first then [] else 44 ∷ []) ++ sarif_result t

-- what stands behind all findings
abbrev pub ending : Format → List ℕ
ending (Human style) = []
ending Short = []
ending Json = []
ending Github = []
ending Sarif = sarif_ending
