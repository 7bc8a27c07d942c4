use Rattle.std.proofs.Common.{rules, ◌≡◌, refl, sym, ◌∙◌, ap, Err}
use Rattle.spdx_meaning.specs.Stack.{stack_in}
use Rattle.spdx_meaning.proofs.Machine.{begins, reads_requirement, reads_operator, refuses, finishes, newest_first}
use Rattle.spdx_meaning.proofs.Refusals.{handed_on}
use Rattle.spdx_meaning.proofs.made.sets_of.Goals as goal
use Rattle.spdx_meaning.proofs.made.sets_of.Goals.{in-Req+in_ok-push_one-in-Req, in-Op+in_ok-join_newest-in-Op}

pub loop-node-init : goal.loop-node-init
loop-node-init c = begins c.args.nodes.now c.args.numbers.now (stack_in c.new-stack.result.items) c.requires.tree c.requires.each (ap stack_in c.new-stack.ensures.items)

pub loop-node-preserved : goal.loop-node-preserved
loop-node-preserved c = elim c.match-node.branch [
  | in-Req+in_ok-push_one-in-Req w ↦
      rw (w.number-is, w.stack-is) (reads_requirement _ _ _ _ _ _ _ _ _ c.loop-node.invariant c.loop-node-test.true (sym c.node-item.is ∙ w.in-Req.is) refl w.in_ok-push_one-in-Req.ensures)
  | in-Op+in_ok-join_newest-in-Op w ↦
      rw (w.number-is, w.stack-is) (reads_operator _ _ _ _ _ _ _ c.loop-node.invariant c.loop-node-test.true (sym c.node-item.is ∙ w.in-Op.is) _ w.in_ok-join_newest-in-Op.ensures.ok)
]

pub returns-in_err-join_newest-in-Op-clause-err : goal.returns-in_err-join_newest-in-Op-clause-err
returns-in_err-join_newest-in-Op-clause-err c =
    let same : c.from_residual-in_err-join_newest-in-Op.result ≡ Err c.in_err-join_newest-in-Op.field-0.0 = search rules in
    handed_on _ _ (λ e h. refuses _ _ _ _ _ _ _ c.loop-node.invariant c.loop-node-test.true (sym c.node-item.is ∙ c.in-Op.is) e.0 h c.requires.tree) _ c.in_err-join_newest-in-Op.field-0.0 same c.in_err-join_newest-in-Op.ensures.err

pub returns-clause-ok : goal.returns-clause-ok
returns-clause-ok c f e =
    finishes _ _ _ _ _ _ _ c.loop-node.invariant (search rules) c.requires.tree (newest_first _ c.pop.new.self.items c.unwrap.result (rw c.unwrap.ensures at c.pop.ensures.items)) f e
