use Rattle.std.proofs.Common.{rules, arith, sym, ◌∙◌, ap, ◌≡◌, ℕ, Bool, List, ◌∷◌, Vec, length}
use Rattle.std.specs.declared.alloc.Global.{Global}
use Rattle.std.proofs.lemmas.List.{length-map}
use Rattle.spdx_parser.specs.declared.node.Operator.TheVariants.{And, Or}
use Rattle.spdx_parser.specs.declared.node.ExprNode.TheVariants.{Op}
use Rattle.spdx_evaluation.specs.Postfix.{tree_in}
use Rattle.spdx_minimize.proofs.Asking.{begins, leaf_there, reads_requirement, reads_operator, finishes}
use Rattle.spdx_why.specs.Missing.{answer_in}
use Rattle.spdx_why.specs.Serving.{lists_in}
use Rattle.spdx_why.proofs.Served.{length-served}
use Rattle.spdx_why.proofs.judge.is_true.Goals as goal
use Rattle.spdx_why.proofs.judge.is_true.Goals.{in-Req, in-Op-And, in-Op-Or}

each_list : (serving : List (Vec ℕ Global)) → length (lists_in serving) ≡ length serving
each_list serving = length-map serving (λ (v : Vec ℕ Global). v.items)

pub loop-node-init : goal.loop-node-init
loop-node-init c =
    let each = length-served (answer_in c.args.selection.now) c.args.accepted.now (lists_in c.args.serving.now) (each_list c.args.serving.now ∙ c.requires.served) in
    record {
      so_far = begins _ _ _ (tree_in c.args.nodes.now) c.requires.tree (each ∙ c.requires.each) c.clear.ensures.items (omega (arith, c.requires.room, c.clear.ensures.room));
      place = omega arith;
      room = c.clear.ensures.room;
    }

pub is_met-requires-clause-within : goal.is_met-requires-clause-within
is_met-requires-clause-within c =
    let there = leaf_there _ _ _ _ _ _ _ c.loop-node.invariant.so_far c.loop-node-test.true (sym c.node-item.is ∙ c.in-Req.is) in
    omega (arith, there, length-served (answer_in c.args.selection.now) c.args.accepted.now (lists_in c.args.serving.now) (each_list c.args.serving.now ∙ c.requires.served))

pub loop-node-preserved : goal.loop-node-preserved
loop-node-preserved c = elim c.match-node.branch [
  | in-Req w ↦
      let node = sym c.node-item.is ∙ w.in-Req.is in
      rw (w.number-is, w.truths-is) record {
        so_far = reads_requirement _ _ _ _ _ _ _ _ c.loop-node.invariant.so_far c.loop-node-test.true node
            (w.push.ensures.items ∙ ap (λ (b : Bool). b ∷ c.loop-node.truths.items) w.is_met.ensures) w.push.ensures.room;
        place = omega (arith, c.loop-node.invariant.place);
        room = w.push.ensures.room ∙ c.loop-node.invariant.room;
      }
  | in-Op-And w ↦
      let node : c.node-item.result ≡ Op And = search rules in
      rw (w.number-is, w.truths-is) record {
        so_far = reads_operator _ _ _ _ _ _ And _ c.loop-node.invariant.so_far c.loop-node-test.true (sym c.node-item.is ∙ node) w.both.ensures.items w.both.ensures.room;
        place = omega (arith, c.loop-node.invariant.place);
        room = w.both.ensures.room ∙ c.loop-node.invariant.room;
      }
  | in-Op-Or w ↦
      let node : c.node-item.result ≡ Op Or = search rules in
      rw (w.number-is, w.truths-is) record {
        so_far = reads_operator _ _ _ _ _ _ Or _ c.loop-node.invariant.so_far c.loop-node-test.true (sym c.node-item.is ∙ node) w.either.ensures.items w.either.ensures.room;
        place = omega (arith, c.loop-node.invariant.place);
        room = w.either.ensures.room ∙ c.loop-node.invariant.room;
      }
]

pub returns-clause-answer : goal.returns-clause-answer
returns-clause-answer c =
    let each = length-served (answer_in c.args.selection.now) c.args.accepted.now (lists_in c.args.serving.now) (each_list c.args.serving.now ∙ c.requires.served) in
    finishes _ _ _ _ _ _ _ (tree_in c.args.nodes.now) c.loop-node.invariant.so_far (search rules) c.take.ensures.items c.requires.tree (each ∙ c.requires.each)
