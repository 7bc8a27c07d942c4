-- What each of some expressions is used under.
use Rattle.std.specs.Prelude.{◌≡◌, List, [], ◌∷◌, map}
use Rattle.std.specs.List.{filter, list_any}
use Rattle.std.specs.Global.{Vec}
use Rattle.spdx_requirement.specs.declared.requirement.LicenseReq.{LicenseReq}
use Rattle.spdx_requirement.specs.Items.{Requirement, requirement_of}
use Rattle.spdx_requirement.specs.Equality.{same_requirement}
use Rattle.spdx_parser.specs.Tree.{Tree}
use Rattle.spdx_minimize.specs.Choice.{Choice, chosen, choice_of}

-- the least choice of one expression alone
abbrev pub own_choice : List Requirement → Tree → Choice
own_choice licensees t = choice_of (t ∷ []) licensees

-- what lists of requirements hold
abbrev pub held : List (Vec LicenseReq) → List (List Requirement)
held lists = map (λ reqs. map requirement_of reqs.items) lists

-- the licensees that are among some requirements, in their order
abbrev pub those_in : List Requirement → List Requirement → List Requirement
those_in some licensees = filter (λ l. list_any (λ r. same_requirement r l) some) licensees

-- There is one choice for all of the expressions, and each stands under its own least choice among
-- the licensees that are in it.
pub record IsJoint (licensees : List Requirement) (trees : List Tree)
    (choices : List (List Requirement)) : Type 0 where
  pub joint : List Requirement
  pub for_all : choice_of trees licensees ≡ chosen joint
  pub own : map (own_choice (those_in joint licensees)) trees ≡ map chosen choices
