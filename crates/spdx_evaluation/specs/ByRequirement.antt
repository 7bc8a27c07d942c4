-- Evaluation over a closure that answers by the requirement alone.
use Rattle.std.specs.Prelude.{◌≡◌, Bool, false, not, List}
use Rattle.std.specs.List.{filter}
use Rattle.spdx_requirement.specs.declared.requirement.LicenseReq.{LicenseReq}
use Rattle.spdx_requirement.specs.Items.{Requirement, requirement_of}
use Rattle.spdx_parser.specs.Tree.{Tree}
use Rattle.spdx_evaluation.specs.Requirements.{PlacedRequirement}
use Rattle.spdx_evaluation.specs.Truth.{holds}

-- a call in state f answers what h says of the requirement, and leaves the closure as it was
abbrev pub AnswersBy : {F : Type 0} → (F → LicenseReq → Bool → F → Type 0) → F →
    (Requirement → Bool) → Type 0
AnswersBy {F} S f h =
    (x : LicenseReq) (b : Bool) (g : F) → S f x b g → (b ≡ h (requirement_of x)) × (g ≡ f)

-- the tree is false by h, and of its requirements with their places these are the ones that h
-- refuses
abbrev pub FailsBy : (Requirement → Bool) → Tree → List PlacedRequirement → List PlacedRequirement →
    Type 0
FailsBy h t placed failed = (holds h t ≡ false) × (failed ≡ filter (λ p. not (h p.0)) placed)
