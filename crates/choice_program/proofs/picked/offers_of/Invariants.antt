use Rattle.std.proofs.Common.{◌≡◌, map, take}
use Rattle.package_choices.specs.Choice.{offer_of}
use Rattle.choice_program.specs.Picked.{offers_in, pick_of}
use Rattle.choice_program.proofs.picked.offers_of.Given as goal

abbrev pub invariant-loop-one : goal.invariant-loop-one
invariant-loop-one l = map offer_of l.offers.items ≡ offers_in (map pick_of (take l.one-index l.own))
