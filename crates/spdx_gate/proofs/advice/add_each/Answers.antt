use Rattle.std.proofs.Common.{◌<◌, length, map, List, subst, arith}
use Rattle.std.proofs.lemmas.List.{take_all}
use Rattle.spdx_requirement.specs.declared.requirement.LicenseReq.{LicenseReq}
use Rattle.spdx_requirement.specs.Items.{requirement_of}
use Rattle.spdx_gate.specs.Advising.{AddsOffers, free_texts}
use Rattle.spdx_gate.proofs.Offers.{way_adds}
use Rattle.spdx_gate.proofs.advice.add_each.Goals as goal

pub loop-way-preserved : goal.loop-way-preserved
loop-way-preserved c =
    let lt : c.loop-way.way-index < length c.args.ways.now = omega arith in
    way_adds c.args.policy.now c.args.exceptions.now c.args.ways.now c.loop-way.way-index c.way-item.result _ _ _ lt c.way-item.is c.loop-way.invariant c.in_ok-add_offer.ensures

pub returns : goal.returns
returns c =
    subst (λ (z : List LicenseReq). AddsOffers c.args.policy.now (free_texts c.args.policy.now c.args.exceptions.now (map requirement_of z)) c.args.offers.now.items c.loop-way.offers.items)
    (take_all c.loop-way.way-index c.args.ways.now c.loop-way-test.false) c.loop-way.invariant
