-- The order and the grouping of operands.
use Rattle.std.specs.Prelude.{◌≡◌, ℕ, List}
use Rattle.spdx_requirement.specs.Rows.{Rows}
use Rattle.spdx_parser.specs.declared.node.Operator.{Operator}
use Rattle.spdx_parser.specs.Tree.{Tree, Join}
use Rattle.spdx_policy.specs.Rules.{Rules}
use Rattle.spdx_gate.specs.declared.judgement.Outcome.{Outcome}
use Rattle.spdx_gate.specs.Judging.{mode_of, IsOutcome}
use Rattle.spdx_gate.specs.Reports.{Means, outcome_verdict}

-- the operands of AND and OR exchanged and grouped otherwise, anywhere in the tree, and any number
-- of times
pub data IsRearranged : Tree → Tree → Type 0 where
  same : {t : Tree} → IsRearranged t t
  exchanged : {o : Operator} {l r : Tree} → IsRearranged (Join o l r) (Join o r l)
  regrouped : {o : Operator} {a b c : Tree} →
      IsRearranged (Join o (Join o a b) c) (Join o a (Join o b c))
  within : {o : Operator} {l r t u : Tree} → IsRearranged l t → IsRearranged r u
      → IsRearranged (Join o l r) (Join o t u)
  turned : {t u : Tree} → IsRearranged t u → IsRearranged u t
  followed : {t u v : Tree} → IsRearranged t u → IsRearranged u v → IsRearranged t v

-- texts that mean trees of which one is the other one rearranged have the same verdict
abbrev pub NoOrderMatters : Rows → Rules → List ℕ → List ℕ → Outcome → Type 0
NoOrderMatters c p tables text o =
    (other : List ℕ) (t u : Tree) → Means c (mode_of p) text t → Means c (mode_of p) other u →
    IsRearranged t u
    → (rearranged : Outcome) → IsOutcome c p tables other rearranged →
    outcome_verdict rearranged ≡ outcome_verdict o
