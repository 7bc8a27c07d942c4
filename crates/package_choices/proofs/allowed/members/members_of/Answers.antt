use Rattle.std.proofs.Common.{rules, sym, ◌∙◌, ap, ◌≡◌, ◌+◌, List, [], ◌∷◌, drop, map}
use Rattle.std.proofs.lemmas.List.{drop_all, drop_more}
use Rattle.spdx_requirement.specs.Items.{Requirement}
use Rattle.package_choices.specs.declared.allowed.offer.Offer.{Offer}
use Rattle.package_choices.specs.Choice.{offer_of, allowed_of, all_allowed}
use Rattle.package_choices.specs.Members.{shown, grown}
use Rattle.package_choices.proofs.Growing.{grown-append, firsts_grown}
use Rattle.package_choices.proofs.allowed.members.members_of.Goals as goal

pub loop-offer-preserved : goal.loop-offer-preserved
loop-offer-preserved c =
    let offers = c.args.offers.now in
    let i = c.loop-offer.offer-index in
    let one = c.offer-item.result in
    let rest = all_allowed (map offer_of (drop (i + 1) offers)) in
    let tail : drop i offers ≡ one ∷ drop (i + 1) offers = drop_more offers i one c.loop-offer-test.true ∙ ap (λ (o : Offer). o ∷ drop (i + 1) offers) (sym c.offer-item.is) in
    ap (λ (z : List Requirement). grown z rest) c.in_ok-put_allowed.ensures
    ∙ sym (grown-append (shown c.loop-offer.members.items) (allowed_of (offer_of one)) rest)
    ∙ sym (ap (λ (z : List Offer). grown (shown c.loop-offer.members.items) (all_allowed (map offer_of z))) tail)
    ∙ c.loop-offer.invariant

pub returns : goal.returns
returns c =
    let offers = c.args.offers.now in
    let none : drop c.loop-offer.offer-index offers ≡ [] = drop_all c.loop-offer.offer-index offers (search rules) in
    sym (ap (λ (z : List Offer). grown (shown c.loop-offer.members.items) (all_allowed (map offer_of z))) none)
    ∙ c.loop-offer.invariant
    ∙ firsts_grown (all_allowed (map offer_of offers))
