use Rattle.std.proofs.Common.{◌≡◌, drop, map}
use Rattle.spdx_requirement.specs.Items.{requirement_of}
use Rattle.spdx_policy.specs.Decisions.{exempted_by}
use Rattle.spdx_policy.proofs.policy.Policy.exempted_by.Given as goal

abbrev pub invariant-loop-table : goal.invariant-loop-table
invariant-loop-table l =
    exempted_by l.self l.exceptions (drop l.table-index l.exceptions) (map requirement_of l.ways) ≡ exempted_by l.self l.exceptions l.exceptions (map requirement_of l.ways)
