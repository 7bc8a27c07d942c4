use Rattle.std.proofs.Common.{rules, arith, sym, ◌∙◌, ap, ◌≡◌, ◌<◌, Bool, ◌∷◌, length, get_or, false}
use Rattle.spdx_minimize.specs.declared.question.Part.{Part}
use Rattle.spdx_parser.specs.declared.node.Operator.TheVariants.{And, Or}
use Rattle.spdx_parser.specs.declared.node.ExprNode.TheVariants.{Op}
use Rattle.spdx_minimize.specs.Places.{part_of, any_at, answers, question_tree}
use Rattle.spdx_minimize.proofs.Asking.{begins, leaf_there, reads_requirement, reads_operator, finishes}
use Rattle.spdx_minimize.proofs.Places.{each_answer, answer_at}
use Rattle.spdx_minimize.proofs.judge.is_true_over.Goals as goal
use Rattle.spdx_minimize.proofs.judge.is_true_over.Goals.{in-Req, in-Op-And, in-Op-Or}

pub loop-node-init : goal.loop-node-init
loop-node-init c =
    let t = question_tree c.args.question.now in
    record {
      so_far = begins _ _ _ t c.args.question.now.postfix (each_answer c.args.selection.now c.args.question.now) c.clear.ensures.items (omega (arith, c.requires, c.clear.ensures.room));
      room = c.clear.ensures.room;
    }

pub loop-node-preserved : goal.loop-node-preserved
loop-node-preserved c = elim c.match-node.branch [
  | in-Req w ↦
      let node = sym c.node-item.is ∙ w.in-Req.is in
      let there = leaf_there _ _ _ _ _ _ _ c.loop-node.invariant.so_far c.loop-node-test.true node in
      let q = c.args.question.now in
      let within : c.loop-node.leaf < length q.parts.now = omega (arith, there, each_answer c.args.selection.now q, q.each) in
      let none : Part = record { start = 0; end = 0 } in
      let here : any_at c.args.selection.now (part_of q.places.now (get_or q.parts.now c.loop-node.leaf none)) ≡ get_or (answers c.args.selection.now q) c.loop-node.leaf false =
      answer_at c.args.selection.now q.places.now q.parts.now c.loop-node.leaf none within in
      rw (w.leaf-is, w.truths-is) record {
        so_far = reads_requirement _ _ _ _ _ _ _ _ c.loop-node.invariant.so_far c.loop-node-test.true node
            (w.push.ensures.items ∙ ap (λ (b : Bool). b ∷ c.loop-node.truths.items) (w.is_any_chosen.ensures ∙ here)) w.push.ensures.room;
        room = w.push.ensures.room ∙ c.loop-node.invariant.room;
      }
  | in-Op-And w ↦
      let node : c.node-item.result ≡ Op And = search rules in
      rw (w.leaf-is, w.truths-is) record {
        so_far = reads_operator _ _ _ _ _ _ And _ c.loop-node.invariant.so_far c.loop-node-test.true (sym c.node-item.is ∙ node) w.both.ensures.items w.both.ensures.room;
        room = w.both.ensures.room ∙ c.loop-node.invariant.room;
      }
  | in-Op-Or w ↦
      let node : c.node-item.result ≡ Op Or = search rules in
      rw (w.leaf-is, w.truths-is) record {
        so_far = reads_operator _ _ _ _ _ _ Or _ c.loop-node.invariant.so_far c.loop-node-test.true (sym c.node-item.is ∙ node) w.either.ensures.items w.either.ensures.room;
        room = w.either.ensures.room ∙ c.loop-node.invariant.room;
      }
]

pub returns-clause-answer : goal.returns-clause-answer
returns-clause-answer c =
    let t = question_tree c.args.question.now in
    finishes _ _ _ _ _ _ _ t c.loop-node.invariant.so_far (search rules) c.take.ensures.items c.args.question.now.postfix (each_answer c.args.selection.now c.args.question.now)
