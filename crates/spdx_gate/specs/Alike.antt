-- What is said alike.
use Rattle.std.specs.Prelude.{◌≡◌, map}
use Rattle.spdx_parser.specs.Tree.{node_of}
use Rattle.spdx_why.specs.Least.{advised}
use Rattle.spdx_gate.specs.declared.judged.Judged.{Judged}
use Rattle.spdx_gate.specs.declared.judgement.Outcome.{Outcome}
use Rattle.spdx_gate.specs.declared.judgement.Outcome.TheVariants as outcome

-- of the same expression the same is said, but for where it stands in a text, and for advice
pub record SaysAlike (j k : Judged) : Type 0 where
  pub nodes_are : map node_of j.nodes.items ≡ map node_of k.nodes.items
  pub decisions_are : j.decisions.items ≡ k.decisions.items
  pub missing_are : j.missing.items ≡ k.missing.items
  pub choice_is : advised j.choice ≡ advised k.choice
  pub verdict_is : j.verdict ≡ k.verdict

-- both are expressions, and the same is said of them
abbrev pub BothSayAlike : Outcome → Outcome → Type 0
BothSayAlike (outcome.Judged j) (outcome.Judged k) = SaysAlike j k
BothSayAlike (outcome.Judged j) (outcome.Unreadable f) = ⊥
BothSayAlike (outcome.Unreadable f) o = ⊥
