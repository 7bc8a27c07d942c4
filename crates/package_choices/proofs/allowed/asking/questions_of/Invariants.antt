use Rattle.std.proofs.Common.{◌≡◌, ◌++◌, drop, map}
use Rattle.package_choices.specs.Choice.{asked, offer_of}
use Rattle.package_choices.specs.Questions.{asked_of}
use Rattle.package_choices.specs.Members.{shown}
use Rattle.package_choices.proofs.allowed.asking.questions_of.Given as goal

abbrev pub invariant-loop-offer : goal.invariant-loop-offer
invariant-loop-offer l = map asked_of l.questions.items ++ map (asked (shown l.members)) (map offer_of (drop l.offer-index l.offers)) ≡ map (asked (shown l.members)) (map offer_of l.offers)
