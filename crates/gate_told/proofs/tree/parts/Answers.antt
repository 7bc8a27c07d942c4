use Rattle.std.proofs.Common.{◌∙◌, ap, length}
use Rattle.gate_told.specs.Shown.{is_first_accepted}
use Rattle.gate_told.proofs.Trees.{shown, counted, first}
use Rattle.gate_told.proofs.tree.parts.Goals as goal

pub returns-clause-each : goal.returns-clause-each
returns-clause-each c t a =
    ap length (c.reverse.ensures.items ∙ c.in_ok-parts.ensures ∙ shown t c.args.nodes.now c.args.leaves.now a)
    ∙ counted t c.args.nodes.now c.args.leaves.now a

pub returns-clause-first : goal.returns-clause-first
returns-clause-first c t a =
    ap is_first_accepted (c.reverse.ensures.items ∙ c.in_ok-parts.ensures ∙ shown t c.args.nodes.now c.args.leaves.now a)
    ∙ first t c.args.leaves.now a.each
