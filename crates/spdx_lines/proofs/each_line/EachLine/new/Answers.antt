use Rattle.spdx_minimize.specs.AcceptedModel.{licensees_of}
use Rattle.spdx_lines.specs.Found.{rule_of}
use Rattle.spdx_lines.proofs.each_line.EachLine.new.Goals as goal

pub invariant_of-result : goal.invariant_of-result
invariant_of-result c = record {
  known = c.new-remembered.ensures (rule_of c.args.catalogue.now c.args.mode (licensees_of c.new-accepted.result));
}
