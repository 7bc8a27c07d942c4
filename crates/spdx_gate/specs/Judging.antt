-- What a policy says of a text, under the exceptions of a package.
use Rattle.std.specs.Prelude.{◌≡◌, ℕ, Bool, cond, List, [], map}
use Rattle.spdx_requirement.specs.Rows.{Rows}
use Rattle.spdx_lexer.specs.declared.token.ParseMode.{ParseMode}
use Rattle.spdx_lexer.specs.Code.{span_of}
use Rattle.spdx_lexer.specs.Faults.{fault_of}
use Rattle.spdx_lexer.specs.Modes.{strict, lax}
use Rattle.spdx_parser.specs.Tree.{Tree, leaves}
use Rattle.spdx_parser.specs.Faults.{IsFaultOf, HasNoTree}
use Rattle.spdx_parser.specs.Meaning.{IsParsed}
use Rattle.spdx_evaluation.specs.Postfix.{tree_in}
use Rattle.spdx_evaluation.specs.Truth.{holds}
use Rattle.spdx_policy.specs.declared.decision.Decision.{Decision}
use Rattle.spdx_policy.specs.Decisions.{decision_of}
pub use Rattle.spdx_gate.specs.Allowing.{mark_of, allowed_in}
use Rattle.spdx_gate.specs.Advising.{IsAdvised}
use Rattle.spdx_policy.specs.Rules.{Rules}
use Rattle.spdx_why.specs.Marks.{allows, none_of}
use Rattle.spdx_why.specs.Missing.{missing_of, Cures, Binds}
use Rattle.spdx_why.specs.Least.{choice_of, advised}
use Rattle.spdx_gate.specs.declared.package.Verdict.{Verdict}
use Rattle.spdx_gate.specs.declared.judgement.Fault.{Fault}
use Rattle.spdx_gate.specs.declared.judged.Judged.{Judged}
use Rattle.spdx_gate.specs.declared.judgement.Outcome.{Outcome}
use Rattle.spdx_gate.specs.declared.judgement.Outcome.TheVariants as outcome
use Rattle.spdx_gate.specs.Verdicts.{verdict_by}

-- how a policy has texts read
abbrev pub mode_of : Rules → ParseMode
mode_of p = cond p.lax lax strict

-- the verdict of a tree under some exceptions
abbrev pub verdict_of : Rules → List ℕ → Tree → Verdict
verdict_of p tables t = verdict_by (holds (allowed_in p tables) t) (holds (allowed_in p []) t)

-- which requirements are accepted
abbrev pub accepted_in : List Decision → List Bool
accepted_in ds = map allows (map mark_of ds)

-- none of them, where a choice begins with nothing
abbrev pub none_in : List Decision → List Bool
none_in ds = none_of (map mark_of ds)

-- each requirement of the tree has its decision, and what is missing, advised and chosen follows
-- from these
pub record IsDecided (p : Rules) (tables : List ℕ) (t : Tree) (j : Judged) : Type 0 where
  pub decisions_are : j.decisions.items ≡ map (decision_of p tables) (leaves t)
  pub missing_are : j.missing.items ≡ missing_of t (accepted_in j.decisions.items)
  pub cures : Cures t (accepted_in j.decisions.items) j.missing.items
  pub binds : Binds t (accepted_in j.decisions.items) j.missing.items
  pub advice_is : IsAdvised p tables t j.advice
  pub choice_is : advised j.choice ≡ choice_of t (none_in j.decisions.items)
      (accepted_in j.decisions.items)
  pub verdict_is : j.verdict ≡ verdict_of p tables t

-- the nodes are those of the text
pub record IsJudged (c : Rows) (p : Rules) (tables text : List ℕ) (j : Judged) : Type 0 where
  pub parsed : IsParsed c (mode_of p) text j.nodes.items
  pub tree_is : tree_in j.nodes.items ≡ parsed.tree
  pub decided : IsDecided p tables parsed.tree j

-- the text has no tree, and this is its fault
pub record IsUnread (c : Rows) (p : Rules) (text : List ℕ) (f : Fault) : Type 0 where
  pub no_tree : HasNoTree c (mode_of p) text
  pub fault_is : IsFaultOf c (mode_of p) text (fault_of f.reason) (span_of f.span)

-- what comes out of a text under some exceptions
abbrev pub IsOutcome : Rows → Rules → List ℕ → List ℕ → Outcome → Type 0
IsOutcome c p tables text (outcome.Judged j) = IsJudged c p tables text j
IsOutcome c p tables text (outcome.Unreadable f) = IsUnread c p text f
