-- Offers of which each is enough for its own expression.
use Rattle.std.specs.Prelude.{◌≡◌, ℕ, ◌≤◌, true, List, [], ◌∷◌, length, map}
use Rattle.spdx_parser.specs.Tree.{leaves}
use Rattle.spdx_evaluation.specs.Truth.{truth_of}
use Rattle.spdx_why.specs.Least.{Choice, chosen}
use Rattle.package_choices.specs.Choice.{Offered, Told, together, unmet, too_many}

-- the expression is true over what is allowed, and has no more requirements than the limit
pub record Passes (o : Offered) : Type 0 where
  pub each : length o.allowed ≡ length (leaves o.tree)
  pub few : length o.allowed ≤ 1024
  pub true_there : truth_of o.tree o.allowed ≡ true

abbrev pub EachPasses : List Offered → Type 0
EachPasses [] = Unit {0}
EachPasses (o ∷ os) = Passes o × EachPasses os

-- each is a choice
abbrev pub AreChosen : List Choice → Type 0
AreChosen choices = (own : List (List ℕ)) × (choices ≡ map chosen own)

-- there is one choice for all, and each has its own in it, unless there are too many members
abbrev pub IsTogether : Told → Type 0
IsTogether (together choices) = AreChosen choices
IsTogether unmet = ⊥
IsTogether (too_many n) = Unit {0}
