use Rattle.std.proofs.Common.{List, Vec, Global, length, ap, sym, ◌∙◌}
use Rattle.spdx_requirement.specs.declared.requirement.LicenseReq.{LicenseReq}
use Rattle.spdx_evaluation.specs.Postfix.{tree_in}
use Rattle.spdx_policy.specs.Rules.{NamedRow}
use Rattle.spdx_why.specs.Serving.{lists_in}
use Rattle.spdx_gate.specs.Advising.{serving_of}
use Rattle.spdx_gate.specs.Ways.{each_reqs}
use Rattle.spdx_gate.proofs.Offers.{advised_so}
use Rattle.spdx_gate.proofs.advice.advise.Goals as goal

pub returns : goal.returns
returns c =
    let p = c.args.policy.now in
    let tables = c.args.exceptions.now in
    let offers = c.in_ok-offers.offers.items in
    let same_offers = ap (λ (z : List NamedRow). serving_of p tables z (each_reqs c.as_slice-3.result.now)) c.as_slice-2.ensures.value in
    let same_ways = ap (λ (z : List (Vec LicenseReq Global)). serving_of p tables offers (each_reqs z)) (c.as_slice-3.ensures.value ∙ sym c.as_slice.ensures.value) in
    let many = c.len.ensures ∙ sym c.as_slice-2.ensures.len ∙ ap (λ (z : List NamedRow). length z) c.as_slice-2.ensures.value in
    advised_so p tables (tree_in c.args.nodes.now) offers c.as_slice-5.result.now (each_reqs c.as_slice.result.now) c.args.accepted.now (lists_in c.as_slice-4.result.now) c.len.result
    c.in_ok-remedy.remedy c.in_ok-advice.advice (ap each_reqs c.as_slice.ensures.value ∙ c.in_ok-ways.ensures) c.as_slice-5.ensures.value c.requires.accepted
    (ap lists_in c.as_slice-4.ensures.value ∙ c.in_ok-serving.ensures ∙ same_offers ∙ same_ways) many
    c.in_ok-offers.ensures c.in_ok-remedy.ensures.exact c.in_ok-remedy.ensures.cures c.in_ok-advice.ensures
