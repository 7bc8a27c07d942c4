use Rattle.std.proofs.Common.{rules, arith, sym, ◌∙◌, ◌≡◌, ap, subst, map, ◌<◌, Bool, cond, [], ◌∷◌, ◌++◌, length}
use Rattle.std.proofs.lemmas.List.{length-map}
use Rattle.spdx_evaluation.specs.Postfix.{tree_in}
use Rattle.spdx_why.specs.Marks.{allows}
use Rattle.spdx_why.specs.Missing.{answer_in, Cures, Binds}
use Rattle.spdx_why.proofs.Listing.{begins, requirement_there, reads_requirement, reads_operator, finishes, marked}
use Rattle.spdx_why.proofs.Hanging.{cures, binds}
use Rattle.spdx_why.proofs.reasons.missing.Goals as goal
use Rattle.spdx_why.proofs.reasons.missing.Goals.{in-Req+in_ok-put_requirement-in-Req, in-Op+in_ok-put_join-in-Op}

pub loop-node-init : goal.loop-node-init
loop-node-init c =
    begins _ _ _ _ (tree_in c.args.nodes.now) c.requires.tree (length-map c.args.marks.now allows ∙ c.requires.each) c.new-missing.ensures.items c.new-parts.ensures.items

pub loop-node-preserved : goal.loop-node-preserved
loop-node-preserved c = elim c.match-node.branch [
  | in-Req+in_ok-put_requirement-in-Req w ↦
      let node = sym c.node-item.is ∙ w.in-Req.is in
      let there = requirement_there _ _ _ _ _ _ _ _ c.loop-node.invariant c.loop-node-test.true node in
      let within : c.loop-node.number < length c.args.marks.now = omega (arith, there, length-map c.args.marks.now allows) in
      let answer : w.is_allowed-is_allowed.result ≡ answer_in (map allows c.args.marks.now) c.loop-node.number = w.is_allowed-is_allowed.ensures ∙ marked c.args.marks.now c.loop-node.number _ within in
      rw (w.number-is, w.missing-is, w.parts-is) (reads_requirement _ _ _ _ _ _ _ _ _ _ c.loop-node.invariant c.loop-node-test.true node
      (w.in_ok-put_requirement-in-Req.ensures.missing ∙ ap (λ (b : Bool). c.loop-node.missing.items ++ cond b [] (c.loop-node.number ∷ [])) answer)
      (w.in_ok-put_requirement-in-Req.ensures.parts ∙ ap (λ (b : Bool). c.loop-node.parts.items ++ record { truth = b; from = length c.loop-node.missing.items } ∷ []) answer))
  | in-Op+in_ok-put_join-in-Op w ↦
      let node = sym c.node-item.is ∙ w.in-Op.is in
      rw (w.number-is, w.missing-is, w.parts-is) (reads_operator _ _ _ _ _ _ _ _ _ _ c.loop-node.invariant c.loop-node-test.true node
      w.in_ok-put_join-in-Op.ensures.missing w.in_ok-put_join-in-Op.ensures.parts)
]

pub returns-clause-exact : goal.returns-clause-exact
returns-clause-exact c = finishes _ _ _ _ _ _ c.loop-node.invariant (search rules)

pub returns-clause-cures : goal.returns-clause-cures
returns-clause-cures c =
    let t = tree_in c.args.nodes.now in
    let answers = map allows c.args.marks.now in
    subst (Cures t answers) (sym (returns-clause-exact c)) (cures t answers)

pub returns-clause-binds : goal.returns-clause-binds
returns-clause-binds c =
    let t = tree_in c.args.nodes.now in
    let answers = map allows c.args.marks.now in
    subst (Binds t answers) (sym (returns-clause-exact c)) (binds t answers)
