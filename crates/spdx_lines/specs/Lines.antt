-- The rules by which lines are answered.
use Rattle.std.specs.Prelude.{◌≡◌, ℕ, List, [], Result}
use Rattle.line_engine.specs.declared.lines.RunFault.{RunFault}
use Rattle.line_engine.specs.declared.lines.Summary.{Summary}
use Rattle.line_engine.specs.Device.{Devices}
use Rattle.line_engine.specs.Pieces.{SplitsAtLines}
use Rattle.line_engine.specs.Rule.{Rule}
use Rattle.line_engine.specs.Runs.{Runs}
use Rattle.spdx_requirement.specs.Rows.{Rows}
use Rattle.spdx_requirement.specs.Items.{Requirement}
use Rattle.spdx_minimize.specs.Choice.{choice_of}
use Rattle.spdx_minimize.specs.Doubles.{SameMembers}
use Rattle.spdx_lines.specs.declared.lines.LineMode.{LineMode}
use Rattle.spdx_lines.specs.Verdict.{Verdict, verdict_text, choice_column, counts_as_refused, trees_by, all_text, IsTheVerdict}

-- each line gives the text of its verdict with its own choice, and nothing stands behind them all
abbrev pub rule_by : (List ℕ → Verdict) → List Requirement → Rule
rule_by verdict accepted = record {
  text = λ before line. verdict_text (choice_column accepted) (verdict line);
  refuses = λ line. counts_as_refused (verdict line);
  closing = λ lines. [];
}

-- each line gives the text of its verdict without a choice, and behind them all stands the one for
-- all accepted ones
abbrev pub rule_by_all : (List ℕ → Verdict) → List Requirement → Rule
rule_by_all verdict accepted = record {
  text = λ before line. verdict_text (λ t. []) (verdict line);
  refuses = λ line. counts_as_refused (verdict line);
  closing = λ lines. all_text (choice_of (trees_by verdict lines) accepted);
}

-- what stands behind all lines sees which lines there are, and not how often or in what order
abbrev pub ClosesAlike : Rule → Type 0
ClosesAlike rule =
    (lines others : List (List ℕ)) → SameMembers lines others →
    rule.closing lines ≡ rule.closing others

-- the run answers each line by its verdict and its own choice; an input cut behind newlines is
-- answered piece by piece
pub record RunsByLine (c : Rows) (mode : LineMode) (accepted : List Requirement) (d : Devices)
    (result : Result Summary RunFault) : Type 0 where
  pub verdict : List ℕ → Verdict
  pub verdicts : (line : List ℕ) → IsTheVerdict c mode line (verdict line)
  pub splits : SplitsAtLines (rule_by verdict accepted)
  pub runs : Runs (rule_by verdict accepted) d result

-- the run answers each line by its verdict, and gives one choice for all of them, doubled or not
pub record RunsForAll (c : Rows) (mode : LineMode) (accepted : List Requirement) (d : Devices)
    (result : Result Summary RunFault) : Type 0 where
  pub verdict : List ℕ → Verdict
  pub verdicts : (line : List ℕ) → IsTheVerdict c mode line (verdict line)
  pub doubles : ClosesAlike (rule_by_all verdict accepted)
  pub runs : Runs (rule_by_all verdict accepted) d result
