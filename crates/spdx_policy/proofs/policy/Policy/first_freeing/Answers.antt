use Rattle.std.proofs.Common.{◌∙◌, sym, map}
use Rattle.spdx_requirement.specs.Items.{requirement_of}
use Rattle.spdx_policy.specs.Decisions as spec
use Rattle.spdx_policy.specs.Named.{named_row}
use Rattle.spdx_policy.proofs.Placed.{position_map}
use Rattle.spdx_policy.proofs.policy.Policy.first_freeing.Goals as goal

pub returns : goal.returns
returns c = c.freeing_place.ensures ∙ sym (position_map (spec.frees c.args.self.now c.args.exceptions.now (map requirement_of c.args.ways.now)) named_row c.args.names.now)
