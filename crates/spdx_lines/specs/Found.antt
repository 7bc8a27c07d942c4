-- What lines and licensees mean, found by reading them: what the code's own contracts cite. The
-- public ones speak of what is found by what the definitions say of it.
use Rattle.std.specs.Prelude.{ℕ, List, [], length, Result, Ok, Err, if◌then◌else◌, unwrap_or}
use Rattle.std.specs.Str.{is_utf8}
use Rattle.std.specs.Result.{result_ok}
use Rattle.line_engine.specs.Rule.{Rule}
use Rattle.spdx_requirement.specs.Rows.{Rows}
use Rattle.spdx_requirement.specs.Items.{Requirement}
use Rattle.spdx_lexer.specs.Modes.{strict}
use Rattle.spdx_lexer.specs.Words.{Fault, Span}
use Rattle.spdx_lexer.specs.Reading.{reading}
use Rattle.spdx_parser.specs.Tree.{Tree}
use Rattle.spdx_canonical.specs.Canonical.{canonical_of}
use Rattle.spdx_canonical.specs.Normal.{normal_text}
use Rattle.spdx_licensee.specs.Answers.{licensee_at}
use Rattle.spdx_lines.specs.declared.lines.LineMode.{LineMode}
use Rattle.spdx_lines.specs.declared.lines.LineMode.TheVariants.{Strict, Lax, Normal}
use Rattle.spdx_evaluation.specs.Outcome.{Outcome, outcome}
use Rattle.spdx_lines.specs.Verdict.{Verdict, Accepted, Refused, BadUtf8, parse_mode, trees_by}
use Rattle.spdx_lines.specs.Lines.{rule_by, rule_by_all}
use Rattle.spdx_lines.specs.Program.{Meaning}

-- ---- the verdict of a line

abbrev pub column : Rows → LineMode → List ℕ → Tree → List ℕ
column c Strict line t = unwrap_or (result_ok (canonical_of c line)) []
column c Lax line t = unwrap_or (result_ok (canonical_of c line)) []
column c Normal line t = normal_text t

abbrev pub verdict_of : (Tree → List ℕ) → Outcome → Verdict
verdict_of column (Ok t) = Accepted t (column t)
verdict_of column (Err fault) = Refused fault.0 fault.1

unfoldable pub verdict : Rows → LineMode → List ℕ → Verdict
verdict c mode line =
    if is_utf8 line then verdict_of (column c mode line) (outcome c (parse_mode mode) line)
    else BadUtf8

abbrev pub accepted_trees : Rows → LineMode → List (List ℕ) → List Tree
accepted_trees c mode lines = trees_by (verdict c mode) lines

abbrev pub rule_of : Rows → LineMode → List Requirement → Rule
rule_of c mode accepted = rule_by (verdict c mode) accepted

abbrev pub rule_of_all : Rows → LineMode → List Requirement → Rule
rule_of_all c mode accepted = rule_by_all (verdict c mode) accepted

-- ---- the licensees

-- the licensee that a text names, or the fault of the text
unfoldable pub licensee_of : Rows → List ℕ → Result Requirement (Fault × Span)
licensee_of c text = licensee_at (length text) (reading c strict 0 text)

-- both
abbrev pub found : Meaning
found = record { licensee = licensee_of; verdict = verdict }
