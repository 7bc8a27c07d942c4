-- Reports that say the same.
use Rattle.std.specs.Prelude.{◌≡◌, ℕ, List, Option, Some, None, slice_get, map, string_bytes}
use Rattle.std.specs.List.{AllZip}
use Rattle.spdx_lexer.specs.Code.{span_of}
use Rattle.spdx_lexer.specs.Faults.{fault_of}
use Rattle.spdx_parser.specs.Spans.{requirement_spans}
use Rattle.spdx_gate.specs.declared.advice.Advice.{Advice}
use Rattle.spdx_gate.specs.declared.advice.Advice.TheVariants as advice
use Rattle.spdx_gate.specs.declared.judgement.Outcome.{Outcome}
use Rattle.spdx_gate.specs.declared.judgement.Outcome.TheVariants as outcome
use Rattle.spdx_gate.specs.declared.judgement.Judgement.{Judgement}
use Rattle.spdx_gate.specs.declared.report.Row.{Row}
use Rattle.spdx_gate.specs.declared.report.Report.{Report}
use Rattle.spdx_gate.specs.Alike.{SaysAlike}

-- the same entries are advised
abbrev pub IsSameAdvice : Advice → Advice → Type 0
IsSameAdvice (advice.Allow texts) (advice.Allow others) =
    map string_bytes texts.items ≡ map string_bytes others.items
IsSameAdvice advice.Unmet advice.Unmet = Unit {0}
IsSameAdvice (advice.TooMany n) (advice.TooMany m) = n ≡ m
IsSameAdvice a b = ⊥

-- the same is said of the same expression, whose requirements stand at the same places; or the
-- fault is the same
abbrev pub IsSameOutcome : Outcome → Outcome → Type 0
IsSameOutcome (outcome.Judged j) (outcome.Judged k) =
    SaysAlike j k × IsSameAdvice j.advice k.advice ×
    (requirement_spans j.nodes.items ≡ requirement_spans k.nodes.items)
IsSameOutcome (outcome.Judged j) (outcome.Unreadable g) = ⊥
IsSameOutcome (outcome.Unreadable f) (outcome.Judged k) = ⊥
IsSameOutcome (outcome.Unreadable f) (outcome.Unreadable g) =
    (fault_of f.reason ≡ fault_of g.reason) × (span_of f.span ≡ span_of g.span)

pub record IsSameJudgement (j k : Judgement) : Type 0 where
  pub text_is : string_bytes j.text ≡ string_bytes k.text
  pub exceptions_are : j.exceptions.items ≡ k.exceptions.items
  pub outcome_is : IsSameOutcome j.outcome k.outcome

-- at these places stand judgements that say the same
pub record AreSameAt (js ks : List Judgement) (i k : ℕ) : Type 0 where
  pub one : Judgement
  pub other : Judgement
  pub one_there : slice_get js i ≡ Some one
  pub other_there : slice_get ks k ≡ Some other
  pub same : IsSameJudgement one other

-- neither package is judged, or both are, and the same is said of both
abbrev pub IsSamePlace : List Judgement → List Judgement → Option ℕ → Option ℕ → Type 0
IsSamePlace js ks (Some i) (Some k) = AreSameAt js ks i k
IsSamePlace js ks (Some i) None = ⊥
IsSamePlace js ks None (Some k) = ⊥
IsSamePlace js ks None None = Unit {0}

pub record IsSameRow (js ks : List Judgement) (one other : Row) : Type 0 where
  pub verdict_is : one.verdict ≡ other.verdict
  pub exceptions_are : one.exceptions.items ≡ other.exceptions.items
  pub clarification_is : one.clarification ≡ other.clarification
  pub judgement_is : IsSamePlace js ks one.judgement other.judgement

-- row by row
abbrev pub IsSameReport : Report → Report → Type 0
IsSameReport one other =
    AllZip (IsSameRow one.judgements.items other.judgements.items) one.rows.items other.rows.items
