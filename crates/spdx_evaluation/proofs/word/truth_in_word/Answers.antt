use Rattle.std.proofs.Common.{rules, of_calls, arith, refl, sym, ◌∙◌, ◌≡◌, map}
use Rattle.spdx_parser.specs.declared.node.ExprNode.TheVariants.{Op}
use Rattle.spdx_parser.specs.Tree.{node_of}
use Rattle.spdx_evaluation.specs.Postfix.{tree_of}
use Rattle.spdx_evaluation.proofs.Evaluating.{begins, reads_requirement, reads_operator, two_there, one_left, finishes, evaluates}
use Rattle.spdx_evaluation.proofs.word.truth_in_word.Goals as goal
use Rattle.spdx_evaluation.proofs.word.truth_in_word.Goals.{in-Req, in-Op}

pub loop-node-init : goal.loop-node-init
loop-node-init g c = record {
  callable = c.requires.callable;
  so_far = begins _ _ _ _ (tree_of (map node_of c.args.nodes.now)) c.requires.tree c.new-truths.ensures.empty (omega (arith, c.new-truths.ensures.room, c.requires.few));
  room = c.new-truths.ensures.room;
}

pub push-requires : goal.push-requires
push-requires g c = omega (arith, c.loop-node.invariant.so_far.room)

pub join-requires-clause-two : goal.join-requires-clause-two
join-requires-clause-two g c =
    let node : c.node-item.result ≡ Op c.in-Op.operator = search rules in
    two_there _ _ _ _ _ _ _ c.in-Op.operator c.loop-node.invariant.so_far c.loop-node-test.true (sym c.node-item.is ∙ node)

pub join-requires-clause-room : goal.join-requires-clause-room
join-requires-clause-room g c = omega (arith, c.loop-node.invariant.so_far.room)

pub loop-node-preserved : goal.loop-node-preserved
loop-node-preserved g c = elim c.match-node.branch [
  | in-Req w ↦ rw (w.f-is, w.truths-is) record {
    callable = search (rules, of_calls);
    so_far = reads_requirement _ _ _ _ _ _ _ _ _ _ _ c.loop-node.invariant.so_far c.loop-node-test.true (sym c.node-item.is ∙ w.in-Req.is)
        (record { shown = _; shows = refl; called = w.f.ensures }) w.push.ensures.items w.push.ensures.room;
    room = w.push.ensures.room ∙ c.loop-node.invariant.room;
  }
  | in-Op w ↦
      let node : c.node-item.result ≡ Op w.in-Op.operator = search rules in
      rw (w.f-is, w.truths-is) record {
        callable = c.loop-node.invariant.callable;
        so_far = reads_operator _ _ _ _ _ _ _ w.in-Op.operator _ c.loop-node.invariant.so_far c.loop-node-test.true (sym c.node-item.is ∙ node) w.join.ensures.items w.join.ensures.room;
        room = w.join.ensures.room ∙ c.loop-node.invariant.room;
      }
]

pub take-requires : goal.take-requires
take-requires g c =
    let one = one_left _ _ _ _ _ _ c.loop-node.invariant.so_far (search rules) in
    omega (arith, one)

pub returns-clause-truth : goal.returns-clause-truth
returns-clause-truth g c =
    let t = tree_of (map node_of c.args.nodes.now) in
    evaluates _ _ _ _ t _ c.requires.tree (finishes _ _ _ _ _ _ _ _ t c.loop-node.invariant.so_far (search rules) c.take.ensures.items c.requires.tree)
