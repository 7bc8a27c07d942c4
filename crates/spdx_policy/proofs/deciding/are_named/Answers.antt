use Rattle.std.proofs.Common.{◌∙◌, sym}
use Rattle.spdx_requirement.specs.Items.{requirement_of}
use Rattle.spdx_policy.specs.Decisions as spec
use Rattle.spdx_policy.specs.Named.{named_row}
use Rattle.spdx_policy.proofs.Placed.{any_map}
use Rattle.spdx_policy.proofs.deciding.are_named.Goals as goal

pub returns : goal.returns
returns c = c.is_named_among.ensures ∙ sym (any_map (spec.names (requirement_of c.args.way.now)) named_row c.args.names.now)
