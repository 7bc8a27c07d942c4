use Rattle.spdx_minimize.specs.GrowthLaws.{truth_grows}
use Rattle.spdx_minimize.proofs.laws.truth_grows.Goals as goal

pub returns : goal.returns
returns c = truth_grows
