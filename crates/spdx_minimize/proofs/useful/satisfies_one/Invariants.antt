use Rattle.std.proofs.Common.{◌≡◌, drop}
use Rattle.std.specs.List.{list_any}
use Rattle.spdx_requirement.specs.Items.{requirement_of}
use Rattle.spdx_licensee.specs.Satisfies.{satisfies}
use Rattle.spdx_evaluation.specs.Requirements.{requirements_in}
use Rattle.spdx_minimize.proofs.useful.satisfies_one.Given as goal

abbrev pub invariant-loop-node : goal.invariant-loop-node
invariant-loop-node l = list_any (λ r. satisfies l.licensee (requirement_of r.req)) (requirements_in (drop l.node-index l.nodes)) ≡ list_any (λ r. satisfies l.licensee (requirement_of r.req)) (requirements_in l.nodes)
