use Rattle.spdx_policy.proofs.Entries.{old_some, old_none}
use Rattle.std.proofs.Common.{subst, sym, List}
use Rattle.spdx_parser.specs.declared.node.ExprNode.{ExprNode}
use Rattle.spdx_parser.specs.Meaning.{IsParsed}
use Rattle.spdx_policy.specs.Meant.{entry_mode}
use Rattle.spdx_policy.proofs.reading.old_entry.Goals as goal

pub returns-in-Ok-clause-some : goal.returns-in-Ok-clause-some
returns-in-Ok-clause-some c =
    old_some c.args.catalogue.now c.args.text.now c.as_slice.result.now c.unmarked.result
    (subst (λ (z : List ExprNode). IsParsed c.args.catalogue.now entry_mode c.args.text.now z) (sym c.as_slice.ensures) c.in-Ok.ensures.ok) c.unmarked.ensures.some

pub returns-in-Ok-clause-none : goal.returns-in-Ok-clause-none
returns-in-Ok-clause-none c =
    old_none c.args.catalogue.now c.args.text.now c.as_slice.result.now c.unmarked.result
    (subst (λ (z : List ExprNode). IsParsed c.args.catalogue.now entry_mode c.args.text.now z) (sym c.as_slice.ensures) c.in-Ok.ensures.ok) c.unmarked.ensures.none
