use Rattle.std.proofs.Common.{◌∙◌, sym, not, ◌&&◌}
use Rattle.spdx_requirement.specs.Items.{requirement_of}
use Rattle.spdx_policy.specs.Decisions as spec
use Rattle.spdx_policy.specs.Named.{named_row}
use Rattle.spdx_policy.proofs.Placed.{any_map}
use Rattle.spdx_policy.proofs.policy.Policy.frees.Goals as goal

pub returns : goal.returns
returns c =
    c.is_freed.ensures
    ∙ sym (any_map (λ w. spec.names w (named_row c.args.name.now) && not (spec.is_denied_way c.args.self.now c.args.exceptions.now w)) requirement_of c.args.ways.now)
