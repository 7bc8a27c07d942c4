use Rattle.std.proofs.Common.{◌+◌, ◌-◌, ◌≤◌, [], length, vec_len, vec_capacity}
use Rattle.std.specs.Fn.{CalledAt}
use Rattle.spdx_evaluation.specs.Requirements.{nows}
use Rattle.spdx_evaluation.proofs.Evaluating.{Evaluating, CallsOn}
use Rattle.spdx_evaluation.proofs.Logging.{Logs}
use Rattle.spdx_evaluation.proofs.failures.evaluate_with_failures.Given as goal

abbrev pub invariant-loop-node : goal.invariant-loop-node
invariant-loop-node g l = record {
  callable : goal.F-IsAlwaysCallable g l.f;
  so_far : Evaluating (Logs (CallsOn (CalledAt g.F.FnMut))) (l.fn.f, []) (l.f, nows l.failed.items) l.nodes l.node-index l.truths;
  room : vec_len l.failed + (length l.nodes - l.node-index) ≤ vec_capacity l.failed;
}
