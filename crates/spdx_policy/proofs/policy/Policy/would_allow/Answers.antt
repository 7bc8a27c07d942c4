use Rattle.std.proofs.Common.{map, ap, sym, ◌∙◌}
use Rattle.spdx_requirement.specs.Items.{requirement_of}
use Rattle.spdx_policy.specs.Decisions.{frees}
use Rattle.spdx_policy.proofs.Grows.{freed_with}
use Rattle.spdx_policy.proofs.policy.Policy.would_allow.Goals as goal

pub returns-clause-allowed : goal.returns-clause-allowed
returns-clause-allowed c = λ e more h.
    let p = c.args.self.now in
    let ways = map requirement_of c.args.ways.now in
    freed_with p c.args.exceptions.now ways c.args.offer.now more (ap (frees p c.args.exceptions.now ways) (sym c.offer.view_is) ∙ sym c.frees.ensures ∙ e) h
