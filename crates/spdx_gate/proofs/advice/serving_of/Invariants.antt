use Rattle.std.proofs.Common.{◌≡◌, take}
use Rattle.spdx_why.specs.Serving.{lists_in}
use Rattle.spdx_gate.specs.Advising.{serving_of}
use Rattle.spdx_gate.specs.Ways.{each_reqs}
use Rattle.spdx_gate.proofs.advice.serving_of.Given as goal

abbrev pub invariant-loop-number : goal.invariant-loop-number
invariant-loop-number l = lists_in l.found.items ≡ serving_of l.policy l.exceptions l.offers (each_reqs (take l.number l.ways))
