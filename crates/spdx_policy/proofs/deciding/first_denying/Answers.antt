use Rattle.std.proofs.Common.{◌∙◌, sym}
use Rattle.spdx_requirement.specs.Items.{requirement_of}
use Rattle.spdx_policy.specs.Decisions as spec
use Rattle.spdx_policy.specs.Named.{named_row}
use Rattle.spdx_policy.proofs.Placed.{position_map}
use Rattle.spdx_policy.proofs.deciding.first_denying.Goals as goal

pub returns : goal.returns
returns c = c.denying_place.ensures ∙ sym (position_map (spec.entry_denies c.args.exposed (requirement_of c.args.way.now)) named_row c.args.names.now)
