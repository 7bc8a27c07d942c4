use Rattle.std.proofs.Common.{rules, of_calls}
use Rattle.std.specs.Ordering.{is_lt}
use Rattle.std.proofs.lemmas.Fn.{always_returns_same}
use Rattle.spdx_requirement.specs.Items.{requirement_of}
use Rattle.spdx_requirement.specs.Orders.{requirement_cmp}
use Rattle.spdx_meaning.specs.declared.places.Placed.{Placed}
use Rattle.spdx_meaning.specs.Placed.{entry_of}
use Rattle.spdx_meaning.proofs.Order.{requirements_total}
use Rattle.spdx_meaning.proofs.Numbered.{parted_by_key}
use Rattle.spdx_meaning.proofs.places.first_from.Goals as goal

pub returns : goal.returns
returns c =
    let r = requirement_of c.args.requirement.now in
    c.partition_point.ensures.partitioned (λ (p : Placed). is_lt (requirement_cmp (entry_of p).0 r)) (always_returns_same _ _ _ (λ a r f k. search (rules, of_calls)))
    (parted_by_key requirement_cmp requirements_total entry_of c.args.ordered.now r c.requires)
