-- What a policy allows of a text.
use Rattle.std.specs.Prelude.{◌≡◌, ℕ, List, map}
use Rattle.spdx_requirement.specs.Rows.{Rows}
use Rattle.spdx_parser.specs.Tree.{Tree, leaves}
use Rattle.spdx_evaluation.specs.Postfix.{tree_in}
use Rattle.spdx_policy.specs.Rules.{Rules}
use Rattle.spdx_why.specs.Least.{advised}
use Rattle.spdx_gate.specs.declared.judged.Judged.{Judged}
use Rattle.spdx_gate.specs.Judging.{mode_of, allowed_in, accepted_in, IsJudged}
use Rattle.spdx_gate.specs.Reports.{Means}
use Rattle.package_choices.specs.Choice.{Offered, own_choice}

-- the tree that was judged, and of each of its requirements whether it was allowed
abbrev pub judged_offer : Judged → Offered
judged_offer j = record { tree = tree_in j.nodes.items; allowed = accepted_in j.decisions.items }

-- the tree, and of each of its requirements whether the policy allows it under some exceptions
abbrev pub offered : Rules → List ℕ → Tree → Offered
offered p tables t = record { tree = t; allowed = map (allowed_in p tables) (leaves t) }

-- the text means a tree, of which that is offered, and what was chosen is its own least choice
pub record IsAllowed (c : Rows) (p : Rules) (tables text : List ℕ) (j : Judged)
    (o : Offered) : Type 0 where
  pub tree : Tree
  pub means : Means c (mode_of p) text tree
  pub offer_is : o ≡ offered p tables tree
  pub own_is : advised j.choice ≡ own_choice (offered p tables tree)

-- whatever text it was that was judged, under whatever exceptions
abbrev pub IsAllowedOf : Judged → Offered → Type 0
IsAllowedOf j o =
    (c : Rows) → (p : Rules) → (tables text : List ℕ) → IsJudged c p tables text j →
    IsAllowed c p tables text j o
