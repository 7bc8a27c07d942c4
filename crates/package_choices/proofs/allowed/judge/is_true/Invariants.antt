use Rattle.std.proofs.Common.{◌≡◌, ◌≤◌}
use Rattle.spdx_minimize.proofs.Asking.{Asking}
use Rattle.package_choices.specs.Choice.{met_in}
use Rattle.package_choices.specs.Questions.{asked_of}
use Rattle.package_choices.proofs.allowed.judge.is_true.Given as goal

abbrev pub invariant-loop-node : goal.invariant-loop-node
invariant-loop-node l = record {
  so_far : Asking l.question.nodes.now l.node-index (met_in (asked_of l.question) l.selection) l.number l.truths;
  place : l.number ≤ l.node-index;
  room : l.truths.room ≡ l.fn.truths.room;
}
