use Rattle.std.proofs.Common.{◌≡◌, ◌<◌, false, List, [], Vec, Global, get_or, length, map, arith, sym, ◌∙◌, subst}
use Rattle.std.proofs.lemmas.List.{take_all}
use Rattle.std.proofs.lemmas.Option.{unwrap_or-slice_get}
use Rattle.spdx_requirement.specs.declared.requirement.LicenseReq.{LicenseReq}
use Rattle.spdx_requirement.specs.Items.{requirement_of}
use Rattle.spdx_gate.specs.Advising.{AddsOffers, AreEntries, none, free_texts, unless, wanted_by}
use Rattle.spdx_gate.specs.Texts.{each_once}
use Rattle.spdx_gate.specs.Ways.{each_reqs}
use Rattle.spdx_gate.proofs.Offers.{requirement_adds}
use Rattle.spdx_gate.proofs.advice.offers_of.Goals as goal

pub loop-number-init : goal.loop-number-init
loop-number-init c = subst (AreEntries c.args.policy.now []) (sym c.new-offers.ensures.items) none

pub loop-number-preserved : goal.loop-number-preserved
loop-number-preserved c =
    let lt : c.loop-number.number < length c.args.ways.now = omega arith in
    let flag : c.is_accepted-is_accepted.result ≡ get_or c.args.accepted.now c.loop-number.number false =
    c.is_accepted-is_accepted.ensures ∙ unwrap_or-slice_get c.args.accepted.now c.loop-number.number false in
    requirement_adds c.args.policy.now c.args.exceptions.now c.args.accepted.now c.args.ways.now c.loop-number.number c.index-ways-number.result c.is_accepted-is_accepted.result c.loop-number.offers.items c.add_offers.new.offers.items
    lt c.index-ways-number.is flag c.loop-number.invariant
    (subst (λ (z : List LicenseReq). AddsOffers c.args.policy.now (unless c.is_accepted-is_accepted.result (free_texts c.args.policy.now c.args.exceptions.now (map requirement_of z))) c.loop-number.offers.items c.add_offers.new.offers.items) c.deref.ensures.value c.in_ok-add_offers.ensures)

pub returns : goal.returns
returns c =
    subst (λ (z : List (Vec LicenseReq Global)). AreEntries c.args.policy.now (each_once (wanted_by c.args.policy.now c.args.exceptions.now c.args.accepted.now (each_reqs z))) c.loop-number.offers.items)
    (take_all c.loop-number.number c.args.ways.now c.loop-number-test.false) c.loop-number.invariant
