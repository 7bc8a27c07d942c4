use Rattle.spdx_gate.proofs.Passing.{parsed_postfix, judged_of}
use Rattle.spdx_gate.proofs.judgement.outcome_of.Goals as goal

pub judge_nodes-requires : goal.judge_nodes-requires
judge_nodes-requires c = parsed_postfix _ _ _ _ c.in-Ok.ensures.ok

pub returns-in_ok-judge_nodes-in-Ok : goal.returns-in_ok-judge_nodes-in-Ok
returns-in_ok-judge_nodes-in-Ok c =
    judged_of c.args.catalogue.now c.args.policy.now c.args.exceptions.now c.args.text.now _ _ c.in_ok-judge_nodes-in-Ok.field-0 c.mode.ensures c.in_ok-judge_nodes-in-Ok.ensures.nodes c.in-Ok.ensures.ok c.in_ok-judge_nodes-in-Ok.ensures.judged
