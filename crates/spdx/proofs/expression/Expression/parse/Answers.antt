use Rattle.spdx.proofs.Leaves.{if_ok, strictly_read, reads_back}
use Rattle.spdx.proofs.expression.Expression.parse.Goals as goal

pub returns-clause-strict : goal.returns-clause-strict
returns-clause-strict c = if_ok c.parse_mode.result c.parse_mode.ensures.ok (λ e r. strictly_read c.args.catalogue.now c.is_well_formed.ensures c.args.text.now e r)

pub returns-clause-back : goal.returns-clause-back
returns-clause-back c = if_ok c.parse_mode.result c.parse_mode.ensures.ok (λ e r. reads_back c.args.catalogue.now c.is_well_formed.ensures e.tree (strictly_read c.args.catalogue.now c.is_well_formed.ensures c.args.text.now e r))
