-- The texts that are told of a judgement, and what borrows them.
use Rattle.std.specs.Prelude.{◌≡◌, ℕ, List, [], map, option_map, string_bytes}
use Rattle.std.specs.Borrow.{Bor}
use Rattle.gate_forms.specs.declared.reports.Advice.{Advice}
use Rattle.gate_forms.specs.declared.reports.Advice.TheVariants as advice
use Rattle.gate_forms.specs.declared.reports.Leaf.{Leaf}
use Rattle.spdx_requirement.specs.Rows.{Rows}
use Rattle.spdx_policy.specs.Rules.{Rules}
use Rattle.spdx_gate.specs.declared.judged.Judged.{Judged}
use Rattle.spdx_gate.specs.declared.judgement.Judgement.{Judgement}
use Rattle.spdx_gate.specs.declared.judgement.Outcome.{Outcome}
use Rattle.spdx_gate.specs.declared.judgement.Outcome.TheVariants as outcome
use Rattle.spdx_gate.specs.Reports.{IsRight}
use Rattle.spdx_gate.specs.Verdicts.{passes}
use Rattle.gate_told.specs.declared.breakdowns.Breakdown.{Breakdown}
use Rattle.gate_told.specs.declared.breakdowns.Help.{Help}
use Rattle.gate_told.specs.declared.breakdowns.Help.TheVariants as help
use Rattle.gate_told.specs.declared.judged_texts.Requirement.{Requirement}
use Rattle.gate_told.specs.declared.judged_texts.JudgedTexts.{JudgedTexts}
use Rattle.gate_told.specs.Borrowed.{borrowed}
use Rattle.gate_told.specs.Moved.{moved, moved_node, moved_text}
use Rattle.gate_told.specs.Shown.{is_first_accepted}
use Rattle.gate_told.specs.Told.{Telling, told_as, told_leaves}
use Rattle.gate_told.specs.Unread.{IsReason}

-- a requirement as a leaf
abbrev pub owned_leaf : Requirement → Leaf
owned_leaf r = record {
  text = borrowed (string_bytes r.text);
  start = r.start;
  end = r.end;
  mark = r.mark;
  by = borrowed (string_bytes r.by);
}

-- the leaves of an expression; a text that is none has none
abbrev pub leaves_in : Rules → Outcome → List Leaf
leaves_in p (outcome.Judged j) = told_leaves p j
leaves_in p (outcome.Unreadable f) = []

-- an expression has no reason
abbrev pub IsReasonOf : Rows → Rules → List ℕ → Outcome → List ℕ → Type 0
IsReasonOf c p text (outcome.Judged j) bytes = bytes ≡ []
IsReasonOf c p text (outcome.Unreadable f) bytes = IsReason c p.lax text f bytes

-- the texts are those of the judgement
pub record IsShown (c : Rows) (p : Rules) (j : Judgement) (s : JudgedTexts) : Type 0 where
  pub leaves_are : map owned_leaf s.requirements.items ≡ leaves_in p j.outcome
  pub reason_is : IsReasonOf c p (string_bytes j.text) j.outcome (string_bytes s.reason)

-- what would help, as it is told
abbrev pub advice_of : Help → Advice
advice_of help.Unmet = advice.Unmet
advice_of (help.Allow names) = advice.Allow (borrowed (map moved_text names.items))
advice_of (help.NotSought n) = advice.NotSought n

-- a fault, wherever its reason lies
abbrev pub fault_in : Bor (List ℕ) × ℕ × ℕ → List ℕ × ℕ × ℕ
fault_in f = (f.0.now, f.1, f.2)

-- what a breakdown tells
abbrev pub telling_in : Breakdown → Telling
telling_in d =
    told_as d.expression.now (map moved_node d.nodes.items) (map moved d.missing.items)
    (advice_of d.help) (option_map fault_in d.fault)

-- where the judgement is right, and the texts are those of it, the first part is accepted exactly
-- if the expression passes
abbrev pub Agrees : Judgement → JudgedTexts → Breakdown → Type 0
Agrees j s d =
    (c : Rows) (p : Rules) (judged : Judged) → IsRight c p j → IsShown c p j s →
    j.outcome ≡ outcome.Judged judged
    → is_first_accepted d.nodes.items ≡ passes judged.verdict
