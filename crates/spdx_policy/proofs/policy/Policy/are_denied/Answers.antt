use Rattle.std.proofs.Common.{◌∙◌, sym}
use Rattle.spdx_requirement.specs.Items.{requirement_of}
use Rattle.spdx_policy.specs.Decisions as spec
use Rattle.spdx_policy.proofs.Placed.{all_map}
use Rattle.spdx_policy.proofs.policy.Policy.are_denied.Goals as goal

pub returns : goal.returns
returns c = c.is_each_denied.ensures ∙ sym (all_map (spec.is_denied_way c.args.self.now c.args.exceptions.now) requirement_of c.args.ways.now)
