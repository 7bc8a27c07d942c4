use Rattle.spdx_evaluation.specs.Postfix.{tree_in}
use Rattle.spdx_meaning.proofs.Meaning.{both_ask, equivalent_asks}
use Rattle.spdx_meaning.proofs.Refusals.{if_ok}
use Rattle.spdx_meaning.proofs.asks.is_equivalent.Goals as goal

pub returns-clause-ok : goal.returns-clause-ok
returns-clause-ok c =
    let t = tree_in c.args.one.now in
    let u = tree_in c.args.other.now in
    if_ok _ _ (λ asks h. ((λ e. both_ask t u (c.in_ok-asks_at_least.ensures.ok.0 c.if-not-branch.false) (h.0 e)), (λ same. h.1 (equivalent_asks t u same).1))) c.asks_at_least-2.result c.asks_at_least-2.ensures.ok
