use Rattle.std.proofs.Common.{◌∙◌, ap, arith, List, ◌++◌, ◌∷◌, []}
use Rattle.std.proofs.lemmas.List.{nil_from_length}
use Rattle.spdx_canonical.specs.declared.piece.Task.{Task}
use Rattle.spdx_canonical.specs.declared.piece.Place.{Place}
use Rattle.spdx_canonical.proofs.Steps.{begun, written, planned, none_left, done}
use Rattle.spdx_canonical.proofs.plan.pieces_of.Goals as goal

pub loop-task-init : goal.loop-task-init
loop-task-init c = record {
  in_range = omega arith;
  shown = λ t e. begun c.args.nodes.now t _ _ e (c.in_ok-push.ensures.items ∙ ap (λ (x : List Task). x ++ Task.Operand Place.Whole ∷ []) c.new-tasks.ensures.items) c.new-pieces.ensures.items;
}

pub loop-task-preserved-in-Continue-branch-2 : goal.loop-task-preserved-in-Continue-branch-2
loop-task-preserved-in-Continue-branch-2 c = record {
  in_range = c.loop-task.invariant.in_range;
  shown = λ t e. written c.args.nodes.now t _ _ _ _ _ c.in-Some.task c.in-Write.piece (c.loop-task.invariant.shown t e) c.in-Some.ensures.items c.in-Write.is c.in_ok-push-in-Write.ensures.items;
}

pub loop-task-preserved-in-Continue-branch-3 : goal.loop-task-preserved-in-Continue-branch-3
loop-task-preserved-in-Continue-branch-3 c = record {
  in_range = omega arith;
  shown = λ t e.
      planned c.args.nodes.now t c.loop-task.left _ _ _ _ _ c.in-Some.task c.in-Operand.place c.index-nodes-left.result c.if-left-gt0.true c.loop-task.invariant.in_range c.index-nodes-left.is
      (c.loop-task.invariant.shown t e) c.in-Some.ensures.items c.in-Operand.is c.in_ok-plan-in-Operand.ensures.due c.in_ok-plan-in-Operand.ensures.written;
}

pub loop-task-preserved : goal.loop-task-preserved
loop-task-preserved c = record {
  in_range = c.loop-task.invariant.in_range;
  shown = λ t e. absurd (none_left c.args.nodes.now t c.loop-task.left _ _ _ c.in-Some.task c.in-Operand.place c.if-left-gt0.false (c.loop-task.invariant.shown t e) c.in-Some.ensures.items c.in-Operand.is);
}

pub returns : goal.returns
returns c t e = done c.args.nodes.now t _ _ _ (c.loop-task.invariant.shown t e) (nil_from_length c.loop-task.tasks.items (omega (arith, c.loop-task.tasks.ok, c.in_default.ensures.cases.0)))
