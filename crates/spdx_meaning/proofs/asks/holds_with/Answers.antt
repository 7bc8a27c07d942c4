use Rattle.std.proofs.Common.{rules, arith, sym, ◌∙◌, ap, ◌≡◌, ◌<◌, Bool, false, ◌∷◌, length}
use Rattle.std.proofs.lemmas.List.{length-map}
use Rattle.spdx_parser.specs.declared.node.Operator.TheVariants.{And, Or}
use Rattle.spdx_parser.specs.declared.node.ExprNode.TheVariants.{Op}
use Rattle.spdx_evaluation.specs.Postfix.{tree_in}
use Rattle.spdx_minimize.proofs.Asking.{begins, leaf_there, reads_requirement, reads_operator, finishes}
use Rattle.spdx_meaning.specs.Marks.{has_mark}
use Rattle.spdx_meaning.proofs.Machine.{get_or-map}
use Rattle.spdx_meaning.proofs.asks.holds_with.Goals as goal
use Rattle.spdx_meaning.proofs.asks.holds_with.Goals.{in-Req, in-Op-And, in-Op-Or}

pub loop-node-init : goal.loop-node-init
loop-node-init c =
    let each = length-map c.args.numbers.now (has_mark c.args.marks.now c.args.mark) in
    record {
      so_far = begins _ _ _ (tree_in c.args.nodes.now) c.requires.tree (each ∙ c.requires.each) c.clear.ensures.items (omega (arith, c.requires.room, c.clear.ensures.room));
      place = omega arith;
      room = c.clear.ensures.room;
    }

pub loop-node-preserved : goal.loop-node-preserved
loop-node-preserved c = elim c.match-node.branch [
  | in-Req w ↦
      let node = sym c.node-item.is ∙ w.in-Req.is in
      let there = leaf_there _ _ _ _ _ _ _ c.loop-node.invariant.so_far c.loop-node-test.true node in
      let within : c.loop-node.number < length c.args.numbers.now = omega (arith, there, length-map c.args.numbers.now (has_mark c.args.marks.now c.args.mark)) in
      rw (w.number-is, w.truths-is) record {
        so_far = reads_requirement _ _ _ _ _ _ _ _ c.loop-node.invariant.so_far c.loop-node-test.true node
            (w.push.ensures.items ∙ ap (λ (b : Bool). b ∷ c.loop-node.truths.items) (sym (get_or-map (has_mark c.args.marks.now c.args.mark) c.args.numbers.now c.loop-node.number 0 false within))) w.push.ensures.room;
        place = omega (arith, c.loop-node.invariant.place);
        room = w.push.ensures.room ∙ c.loop-node.invariant.room;
      }
  | in-Op-And w ↦
      let node : c.node-item.result ≡ Op And = search rules in
      rw (w.number-is, w.truths-is) record {
        so_far = reads_operator _ _ _ _ _ _ And _ c.loop-node.invariant.so_far c.loop-node-test.true (sym c.node-item.is ∙ node) w.both.ensures.items w.both.ensures.room;
        place = omega (arith, c.loop-node.invariant.place);
        room = w.both.ensures.room ∙ c.loop-node.invariant.room;
      }
  | in-Op-Or w ↦
      let node : c.node-item.result ≡ Op Or = search rules in
      rw (w.number-is, w.truths-is) record {
        so_far = reads_operator _ _ _ _ _ _ Or _ c.loop-node.invariant.so_far c.loop-node-test.true (sym c.node-item.is ∙ node) w.either.ensures.items w.either.ensures.room;
        place = omega (arith, c.loop-node.invariant.place);
        room = w.either.ensures.room ∙ c.loop-node.invariant.room;
      }
]

pub returns-clause-answer : goal.returns-clause-answer
returns-clause-answer c =
    let each = length-map c.args.numbers.now (has_mark c.args.marks.now c.args.mark) in
    finishes _ _ _ _ _ _ _ (tree_in c.args.nodes.now) c.loop-node.invariant.so_far (search rules) c.take.ensures.items c.requires.tree (each ∙ c.requires.each)
