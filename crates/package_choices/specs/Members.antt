-- Distinct requirements, one after another.
use Rattle.std.specs.Prelude.{List, [], ◌∷◌, ◌++◌, cond, map}
use Rattle.std.specs.List.{list_any}
use Rattle.spdx_requirement.specs.declared.requirement.LicenseReq.{LicenseReq}
use Rattle.spdx_requirement.specs.Items.{Requirement, requirement_of}
use Rattle.spdx_requirement.specs.Equality.{same_requirement}

abbrev pub shown : List LicenseReq → List Requirement
shown reqs = map requirement_of reqs

-- the members, and behind them each of the others that is the same as none before it
abbrev pub grown : List Requirement → List Requirement → List Requirement
grown members [] = members
grown members (r ∷ rs) =
    grown (members ++ cond (list_any (λ m. same_requirement m r) members) [] (r ∷ [])) rs
