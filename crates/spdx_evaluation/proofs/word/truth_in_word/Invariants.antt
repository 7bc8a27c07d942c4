use Rattle.std.proofs.Common.{◌≡◌}
use Rattle.std.specs.Fn.{CalledAt}
use Rattle.spdx_evaluation.proofs.Evaluating.{Evaluating, CallsOn}
use Rattle.spdx_evaluation.proofs.word.truth_in_word.Given as goal

abbrev pub invariant-loop-node : goal.invariant-loop-node
invariant-loop-node g l = record {
  callable : goal.F-IsAlwaysCallable g l.f;
  so_far : Evaluating (CallsOn (CalledAt g.F.FnMut)) l.fn.f l.f l.nodes l.node-index l.truths;
  room : l.truths.room ≡ 64;
}
