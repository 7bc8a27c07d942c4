use Rattle.std.proofs.Common.{rules, of_calls, arith, refl, sym, ◌∙◌, ap, ◌≡◌, [], true, map}
use Rattle.std.proofs.lemmas.Grind.{common_steps}
use Rattle.spdx_parser.specs.declared.node.Operator.TheVariants.{And, Or}
use Rattle.spdx_parser.specs.declared.node.ExprNode.TheVariants.{Op}
use Rattle.spdx_parser.specs.Spans.{requirement_spans}
use Rattle.std.specs.Fn.{CalledAt}
use Rattle.spdx_evaluation.specs.Requirements.{nows, placed_of, placed_in}
use Rattle.spdx_evaluation.specs.Postfix.{tree_in}
use Rattle.spdx_evaluation.proofs.Nodes.{placed_of_tree}
use Rattle.spdx_evaluation.proofs.Answering.{holds_by, fails_by}
use Rattle.spdx_evaluation.proofs.Evaluating.{begins, reads_requirement, reads_operator, evaluates}
use Rattle.spdx_evaluation.proofs.Logging.{finishes_log, fails}
use Rattle.spdx_evaluation.proofs.failures.evaluate_with_failures.Goals as goal
use Rattle.spdx_evaluation.proofs.failures.evaluate_with_failures.Goals.{in-Req, in-Op-And, in-Op-Or}

pub loop-node-init : goal.loop-node-init
loop-node-init g c =
    let empty : c.in_ok-failed.failed.items ≡ [] = search rules in
    let log : nows c.in_ok-failed.failed.items ≡ [] = ap nows empty in
    record {
      callable = c.requires.callable;
      so_far = rw log (begins _ (c.args.f.now, []) _ _ (tree_in c.args.nodes.now) c.requires.tree (search rules) (search rules));
      room = grind (arith, common_steps);
    }

pub loop-node-preserved : goal.loop-node-preserved
loop-node-preserved g c = elim c.match-node.branch [
  | in-Req w ↦ rw (w.f-is, w.truths-is, w.failed-is) record {
    callable = search (rules, of_calls);
    so_far = reads_requirement _ _ _ _ _ _ _ _ _ _ _ c.loop-node.invariant.so_far c.loop-node-test.true (sym c.node-item.is ∙ w.in-Req.is)
        (record { called = record { shown = _; shows = refl; called = w.f-answer.ensures }; log = w.keep_if_false.ensures.items }) w.push.ensures.items w.push.ensures.room;
    room = omega (arith, w.keep_if_false.ensures.len, w.keep_if_false.ensures.capacity, c.loop-node.invariant.room);
  }
  | in-Op-And w ↦
      let node : c.node-item.result ≡ Op And = search rules in
      rw (w.f-is, w.truths-is, w.failed-is) record {
        callable = c.loop-node.invariant.callable;
        so_far = reads_operator _ _ _ _ _ _ _ And _ c.loop-node.invariant.so_far c.loop-node-test.true (sym c.node-item.is ∙ node) w.both.ensures.items w.both.ensures.room;
        room = omega (arith, c.loop-node.invariant.room);
      }
  | in-Op-Or w ↦
      let node : c.node-item.result ≡ Op Or = search rules in
      rw (w.f-is, w.truths-is, w.failed-is) record {
        callable = c.loop-node.invariant.callable;
        so_far = reads_operator _ _ _ _ _ _ _ Or _ c.loop-node.invariant.so_far c.loop-node-test.true (sym c.node-item.is ∙ node) w.either.ensures.items w.either.ensures.room;
        room = omega (arith, c.loop-node.invariant.room);
      }
]

pub returns-then-take-clause-ok : goal.returns-then-take-clause-ok
returns-then-take-clause-ok g c =
    let t = tree_in c.args.nodes.now in
    let done = finishes_log _ _ _ _ _ _ _ _ _ t c.loop-node.invariant.so_far (search rules) c.take.ensures.items c.requires.tree in
    let told = evaluates _ _ _ _ t _ c.requires.tree done.evaluated in
    (told.0, told.1, sym c.if-take.true ∙ told.2)

pub returns-clause-err : goal.returns-clause-err
returns-clause-err g c =
    let t = tree_in c.args.nodes.now in
    let done = finishes_log _ _ _ _ _ _ _ _ _ t c.loop-node.invariant.so_far (search rules) c.take.ensures.items c.requires.tree in
    fails _ _ _ _ _ _ t c.requires.tree c.if-take.false done

pub returns-then-take-clause-ok_by : goal.returns-then-take-clause-ok_by
returns-then-take-clause-ok_by g c = λ h by. sym (holds_by (CalledAt g.F.FnMut) c.args.f.now h by (tree_in c.args.nodes.now) true c.loop-node.f (returns-then-take-clause-ok g c))

pub returns-clause-err_by : goal.returns-clause-err_by
returns-clause-err_by g c = λ h by.
    let nodes = c.args.nodes.now in
    let apart = placed_of_tree nodes (tree_in nodes) c.requires.tree in
    fails_by (CalledAt g.F.FnMut) c.args.f.now h by (tree_in nodes) (requirement_spans nodes) (placed_in nodes) (map placed_of (nows c.loop-node.failed.items)) c.loop-node.f apart (returns-clause-err g c)
