use Rattle.std.proofs.Common.{◌≡◌, map, take}
use Rattle.spdx.specs.LexerCode.{span_of}
use Rattle.spdx.specs.Value.{nows}
use Rattle.spdx_uses.proofs.explainer.places_of.Given as goal

abbrev pub invariant-loop-i : goal.invariant-loop-i
invariant-loop-i l = map span_of l.places.items ≡ map (λ r. span_of r.span) (nows (take l.i l.refused.items))
