-- Why there are no choices.
use Rattle.std.specs.Prelude.{◌≡◌, ℕ, List, Some, map, take, slice_get}
use Rattle.spdx_requirement.specs.Items.{Requirement}
use Rattle.spdx_parser.specs.Tree.{Tree}
use Rattle.spdx_minimize.specs.declared.minimize_error.MinimizeError.{MinimizeError}
use Rattle.spdx_minimize.specs.Choice.{Choice, chosen, choice_of}
use Rattle.spdx_minimize.specs.MinimizeFaults.{refused_choice}
use Rattle.package_choices.specs.declared.accepted.unmet.Unmet.{Unmet}
use Rattle.package_choices.specs.declared.accepted.unmet.Unmet.TheVariants.{Expression, Together}
use Rattle.package_choices.specs.Accepted.{own_choice}

-- none of them is refused
abbrev pub AreChosen : List Choice → Type 0
AreChosen choices = (lists : List (List Requirement)) × (choices ≡ map chosen lists)

-- the one at this place is refused, and none before it is
pub record IsFirstRefused (choices : List Choice) (place : ℕ) (e : MinimizeError) : Type 0 where
  pub refused : slice_get choices place ≡ Some (refused_choice e)
  pub before : AreChosen (take place choices)

-- an expression has no choice of its own, and it is the first
abbrev pub TellsOwn : List Requirement → List Tree → Unmet → Type 0
TellsOwn licensees trees (Expression place e) =
    IsFirstRefused (map (own_choice licensees) trees) place e
TellsOwn licensees trees (Together e) = ⊥

-- an expression has no choice of its own, and it is the first; or each has one, and there is none
-- for all of them
abbrev pub TellsJoint : List Requirement → List Tree → Unmet → Type 0
TellsJoint licensees trees (Expression place e) =
    IsFirstRefused (map (own_choice licensees) trees) place e
TellsJoint licensees trees (Together e) =
    (choice_of trees licensees ≡ refused_choice e) × AreChosen (map (own_choice licensees) trees)
