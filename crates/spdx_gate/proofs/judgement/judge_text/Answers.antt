use Rattle.spdx_gate.proofs.Normal.{normal_text_agrees}
use Rattle.spdx_gate.proofs.Order.{no_order}
use Rattle.spdx_gate.proofs.Spelling.{no_spelling}
use Rattle.spdx_gate.proofs.judgement.judge_text.Goals as goal

pub returns-clause-spelling : goal.returns-clause-spelling
returns-clause-spelling c =
    no_spelling c.args.catalogue.now c.is_well_formed.ensures c.args.policy.now c.args.exceptions.now c.args.text.now c.in_ok-outcome.outcome c.in_ok-outcome.ensures

pub returns-clause-normal : goal.returns-clause-normal
returns-clause-normal c =
    normal_text_agrees c.args.catalogue.now c.is_well_formed.ensures c.args.policy.now c.args.exceptions.now c.args.text.now c.in_ok-outcome.outcome c.in_ok-outcome.ensures

pub returns-clause-order : goal.returns-clause-order
returns-clause-order c = no_order c.args.catalogue.now c.args.policy.now c.args.exceptions.now c.args.text.now c.in_ok-outcome.outcome c.in_ok-outcome.ensures
