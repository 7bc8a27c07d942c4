use Rattle.std.proofs.Common.{map, ap, ◌∙◌}
use Rattle.spdx_why.specs.Marks.{allows}
use Rattle.spdx_evaluation.specs.Postfix.{tree_in}
use Rattle.spdx_parser.specs.Tree.{leaves}
use Rattle.spdx_gate.proofs.Passing.{each_allowed}
use Rattle.spdx_gate.proofs.judgement.advice_by.Goals as goal

pub advise-requires-clause-accepted : goal.advise-requires-clause-accepted
advise-requires-clause-accepted c =
    c.as_slice.ensures.value ∙ c.in_ok-accepted.ensures ∙ ap (map allows) c.requires.marks ∙ each_allowed c.args.policy.now c.args.exceptions.now (leaves (tree_in c.args.nodes.now))
