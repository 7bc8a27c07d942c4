-- Licences under which requirements may be had, as rows.
use Rattle.std.specs.Prelude.{List, Vec, map}
use Rattle.std.specs.declared.alloc.Global.{Global}
use Rattle.spdx_requirement.specs.declared.requirement.LicenseReq.{LicenseReq}
use Rattle.spdx_requirement.specs.Items.{Requirement, requirement_of}

-- a list of them, and lists of them
abbrev pub reqs_in : Vec LicenseReq Global → List Requirement
reqs_in reqs = map requirement_of reqs.items

abbrev pub each_reqs : List (Vec LicenseReq Global) → List (List Requirement)
each_reqs lists = map reqs_in lists
