-- When expressions mean the same. Requirements are atoms, and the same as `==` has them.
use Rattle.std.specs.Prelude.{◌≡◌, Bool, true}
use Rattle.spdx_requirement.specs.Items.{Requirement}
use Rattle.spdx_requirement.specs.Equality.{same_requirement}
use Rattle.spdx_parser.specs.Tree.{Tree}
use Rattle.spdx_evaluation.specs.Truth.{holds}

-- the same requirements have the same answer: that some are accepted
abbrev pub IsAcceptance : (Requirement → Bool) → Type 0
IsAcceptance h = (r s : Requirement) → same_requirement r s ≡ true → h r ≡ h s

-- whatever is accepted, where the one holds the other one does
abbrev pub AsksAtLeast : Tree → Tree → Type 0
AsksAtLeast t u = (h : Requirement → Bool) → IsAcceptance h → holds h t ≡ true → holds h u ≡ true

-- whatever is accepted, both hold or none does
abbrev pub IsEquivalent : Tree → Tree → Type 0
IsEquivalent t u = (h : Requirement → Bool) → IsAcceptance h → holds h t ≡ holds h u
