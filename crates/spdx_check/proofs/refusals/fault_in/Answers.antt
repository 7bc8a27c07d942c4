use Rattle.std.proofs.Common.{rules, subst}
use Rattle.spdx_requirement.specs.Failures.{IfRefused}
use Rattle.spdx_canonical.proofs.FixRead.{parsed_reads}
use Rattle.spdx_check.proofs.refusals.fault_in.Goals as goal
use Rattle.spdx_check.proofs.refusals.fault_in.Goals.{in-Ok, in-Err-Refused, in-Err-Memory}

pub returns : goal.returns
returns c = elim c.match-parse_nodes.branch [
  | in-Ok w ↦
      let check = c.args.check.now in
      let reads = parsed_reads check.catalogue.now check.mode c.args.written.now w.in-Ok.field-0.items w.in-Ok.ensures.ok in
      search (rules, reads)
  | in-Err-Refused w ↦
      let told = subst (IfRefused _) w.in-Err-Refused.field-0-is w.in-Err-Refused.ensures.err in
      search (rules, told)
  | in-Err-Memory w ↦ search rules
]
