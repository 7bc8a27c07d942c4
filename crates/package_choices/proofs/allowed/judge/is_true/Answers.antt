use Rattle.std.proofs.Common.{rules, arith, sym, ◌∙◌, ap, ◌≡◌, Bool, ◌∷◌}
use Rattle.spdx_parser.specs.declared.node.Operator.TheVariants.{And, Or}
use Rattle.spdx_parser.specs.declared.node.ExprNode.TheVariants.{Op}
use Rattle.spdx_evaluation.specs.Postfix.{tree_in}
use Rattle.spdx_minimize.proofs.Asking.{begins, leaf_there, reads_requirement, reads_operator, finishes}
use Rattle.package_choices.proofs.Meeting.{each_met}
use Rattle.package_choices.proofs.allowed.judge.is_true.Goals as goal
use Rattle.package_choices.proofs.allowed.judge.is_true.Goals.{in-Req, in-Op-And, in-Op-Or}

pub loop-node-init : goal.loop-node-init
loop-node-init c =
    let q = c.args.question.now in
    let each = each_met c.args.selection.now q in
    record {
      so_far = begins _ _ _ (tree_in q.nodes.now) q.postfix (each ∙ q.each) c.clear.ensures.items (omega (arith, c.requires, c.clear.ensures.room));
      place = omega arith;
      room = c.clear.ensures.room;
    }

pub is_met-requires : goal.is_met-requires
is_met-requires c =
    let there = leaf_there _ _ _ _ _ _ _ c.loop-node.invariant.so_far c.loop-node-test.true (sym c.node-item.is ∙ c.in-Req.is) in
    omega (arith, there, each_met c.args.selection.now c.args.question.now)

pub loop-node-preserved : goal.loop-node-preserved
loop-node-preserved c = elim c.match-node.branch [
  | in-Req w ↦
      let node = sym c.node-item.is ∙ w.in-Req.is in
      rw (w.number-is, w.truths-is) record {
        so_far = reads_requirement _ _ _ _ _ _ _ _ c.loop-node.invariant.so_far c.loop-node-test.true node
            (w.push.ensures.items ∙ ap (λ (b : Bool). b ∷ c.loop-node.truths.items) w.is_met.ensures) w.push.ensures.room;
        place = omega (arith, c.loop-node.invariant.place);
        room = w.push.ensures.room ∙ c.loop-node.invariant.room;
      }
  | in-Op-And w ↦
      let node : c.node-item.result ≡ Op And = search rules in
      rw (w.number-is, w.truths-is) record {
        so_far = reads_operator _ _ _ _ _ _ And _ c.loop-node.invariant.so_far c.loop-node-test.true (sym c.node-item.is ∙ node) w.both.ensures.items w.both.ensures.room;
        place = omega (arith, c.loop-node.invariant.place);
        room = w.both.ensures.room ∙ c.loop-node.invariant.room;
      }
  | in-Op-Or w ↦
      let node : c.node-item.result ≡ Op Or = search rules in
      rw (w.number-is, w.truths-is) record {
        so_far = reads_operator _ _ _ _ _ _ Or _ c.loop-node.invariant.so_far c.loop-node-test.true (sym c.node-item.is ∙ node) w.either.ensures.items w.either.ensures.room;
        place = omega (arith, c.loop-node.invariant.place);
        room = w.either.ensures.room ∙ c.loop-node.invariant.room;
      }
]

pub returns-clause-answer : goal.returns-clause-answer
returns-clause-answer c =
    let q = c.args.question.now in
    let each = each_met c.args.selection.now q in
    finishes _ _ _ _ _ _ _ (tree_in q.nodes.now) c.loop-node.invariant.so_far (search rules) c.take.ensures.items q.postfix (each ∙ q.each)
