use Rattle.std.proofs.Common.{◌≡◌, [], drop, map}
use Rattle.package_choices.specs.Choice.{offer_of, all_allowed}
use Rattle.package_choices.specs.Members.{shown, grown}
use Rattle.package_choices.proofs.allowed.members.members_of.Given as goal

abbrev pub invariant-loop-offer : goal.invariant-loop-offer
invariant-loop-offer l = grown (shown l.members.items) (all_allowed (map offer_of (drop l.offer-index l.offers))) ≡ grown [] (all_allowed (map offer_of l.offers))
