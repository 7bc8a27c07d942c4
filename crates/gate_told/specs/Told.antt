-- What a policy says of an expression, as it is told.
use Rattle.std.specs.Prelude.{ℕ, suc, List, [], ◌∷◌, Option, Some, None, map, flat_map, slice_get, string_bytes, unwrap_or, option_to_list}
use Rattle.gate_forms.specs.declared.reports.Advice.{Advice}
use Rattle.gate_forms.specs.declared.reports.Advice.TheVariants as advice
use Rattle.gate_forms.specs.declared.reports.Leaf.{Leaf}
use Rattle.gate_forms.specs.declared.reports.Mark.{Mark}
use Rattle.gate_forms.specs.declared.reports.Mark.TheVariants as mark
use Rattle.gate_forms.specs.declared.reports.Node.{Node}
use Rattle.gate_forms.specs.declared.reports.Verdict as forms
use Rattle.gate_forms.specs.declared.reports.Verdict.TheVariants as told
use Rattle.gate_forms.specs.declared.reports.Why.{Why}
use Rattle.gate_forms.specs.declared.reports.Why.TheVariants as why
use Rattle.spdx_requirement.specs.Items.{requirement_of}
use Rattle.spdx_requirement.specs.Texts.{requirement_text}
use Rattle.spdx_parser.specs.declared.node.ExpressionReq.{ExpressionReq}
use Rattle.spdx_evaluation.specs.Postfix.{tree_in}
use Rattle.spdx_evaluation.specs.Requirements.{requirements_in}
use Rattle.spdx_policy.specs.declared.decision.Decision.{Decision}
use Rattle.spdx_policy.specs.declared.decision.Decision.TheVariants as decision
use Rattle.spdx_policy.specs.Rules.{Rules}
use Rattle.spdx_gate.specs.declared.advice.Advice as gate
use Rattle.spdx_gate.specs.declared.advice.Advice.TheVariants as given
use Rattle.spdx_gate.specs.declared.judged.Judged.{Judged}
use Rattle.spdx_gate.specs.declared.judgement.Judgement.{Judgement}
use Rattle.spdx_gate.specs.declared.judgement.Outcome.{Outcome}
use Rattle.spdx_gate.specs.declared.judgement.Outcome.TheVariants as outcome
use Rattle.spdx_gate.specs.declared.package.Verdict.{Verdict}
use Rattle.spdx_gate.specs.declared.package.Verdict.TheVariants as verdict
use Rattle.gate_told.specs.Borrowed.{borrowed}
use Rattle.gate_told.specs.Entries.{told_entry}
use Rattle.gate_told.specs.Shown.{shown_parts}

-- ---- the requirements

abbrev pub told_mark : Decision → Mark
told_mark (decision.Allowed e) = mark.Accepted
told_mark (decision.Denied e) = mark.Denied
told_mark decision.Open = mark.Open

-- the entry that decided; empty where none did
abbrev pub decider_text : Rules → Decision → List ℕ
decider_text p (decision.Allowed e) = told_entry p e
decider_text p (decision.Denied e) = told_entry p e
decider_text p decision.Open = []

abbrev pub decision_at : List Decision → ℕ → Decision
decision_at ds number = unwrap_or (slice_get ds number) decision.Open

-- a requirement: its text, where its licence stands, what the policy says of it, and by which entry
abbrev pub told_leaf : Rules → ExpressionReq → Decision → Leaf
told_leaf p r d = record {
  text = borrowed (requirement_text (requirement_of r.req));
  start = r.span.start;
  end = r.span.end;
  mark = told_mark d;
  by = borrowed (decider_text p d);
}

-- requirements of which the first has that number, each with the decision of its number
abbrev pub leaves_from : Rules → List Decision → ℕ → List ExpressionReq → List Leaf
leaves_from p ds number [] = []
leaves_from p ds number (r ∷ rs) =
    told_leaf p r (decision_at ds number) ∷ leaves_from p ds (suc number) rs

-- those of an expression, from left to right
abbrev pub told_leaves : Rules → Judged → List Leaf
told_leaves p j = leaves_from p j.decisions.items 0 (requirements_in j.nodes.items)

-- the one of that number, if there is one
abbrev pub leaf_at : List Leaf → ℕ → List Leaf
leaf_at xs number = option_to_list (slice_get xs number)

-- those of these numbers
abbrev pub leaves_at : List Leaf → List ℕ → List Leaf
leaves_at xs numbers = flat_map (leaf_at xs) numbers

-- ---- a judgement

-- what would make it pass
abbrev pub told_advice : gate.Advice → Advice
told_advice (given.Allow texts) =
    advice.Allow (borrowed (map borrowed (map string_bytes texts.items)))
told_advice given.Unmet = advice.Unmet
told_advice (given.TooMany n) = advice.NotSought n

-- the text; the parts of its expression, the requirements that a refusal hangs on, and what would
-- help; or its fault
pub record Telling : Type 0 where
  pub text : List ℕ
  pub nodes : List Node
  pub missing : List Leaf
  pub help : Advice
  pub fault : Option (List ℕ × ℕ × ℕ)

abbrev pub told_as : List ℕ → List Node → List Leaf → Advice → Option (List ℕ × ℕ × ℕ) → Telling
told_as text nodes missing help fault =
    record { text = text; nodes = nodes; missing = missing; help = help; fault = fault }

abbrev pub telling : Rules → List ℕ → List ℕ → Outcome → Telling
telling p text reason (outcome.Judged j) =
    told_as text (shown_parts (tree_in j.nodes.items) (told_leaves p j) 0)
    (leaves_at (told_leaves p j) j.missing.items)
    (told_advice j.advice) None
telling p text reason (outcome.Unreadable f) =
    told_as text [] [] advice.Unmet (Some (reason, f.span.start, f.span.end))

-- what is told of a judgement, the reason of a fault being this one
abbrev pub telling_of : Rules → List ℕ → Judgement → Telling
telling_of p reason j = telling p (string_bytes j.text) reason j.outcome

-- why a package of which that is told is refused: a fault, or what its refusal hangs on
abbrev pub fault_why : Option (List ℕ × ℕ × ℕ) → Why
fault_why None = why.Nothing
fault_why (Some f) = why.Fault (borrowed f.0) f.1 f.2

abbrev pub told_why : Telling → Verdict → Why
told_why t verdict.Allowed = why.Nothing
told_why t verdict.ByException = why.Nothing
told_why t (verdict.Unstated allowed) = why.Nothing
told_why t verdict.Unreadable = fault_why t.fault
told_why t verdict.Refused = why.Missing (borrowed t.missing) t.help

abbrev pub told_verdict : Verdict → forms.Verdict
told_verdict verdict.Allowed = told.Allowed
told_verdict verdict.ByException = told.ByException
told_verdict (verdict.Unstated allowed) = told.Unstated allowed
told_verdict verdict.Unreadable = told.Refused
told_verdict verdict.Refused = told.Refused
