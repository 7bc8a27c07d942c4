use Rattle.std.proofs.Common.{sym, ◌∙◌, arith}
use Rattle.spdx_catalogue.proofs.Joined.{short, long}
use Rattle.spdx_catalogue.proofs.names.compare_joined.Goals as goal

pub returns-then-name-front : goal.returns-then-name-front
returns-then-name-front c = c.cmp.ensures ∙ sym (short c.args.name.now c.args.front.now c.args.ending.now c.if-name-front.true)

pub returns-in-Less : goal.returns-in-Less
returns-in-Less c = let whole = long c.args.name.now c.args.front.now c.args.ending.now c.if-name-front.false in grind (arith, whole)

pub returns-in-Equal : goal.returns-in-Equal
returns-in-Equal c = let whole = long c.args.name.now c.args.front.now c.args.ending.now c.if-name-front.false in grind (arith, whole)

pub returns-in-Greater : goal.returns-in-Greater
returns-in-Greater c = let whole = long c.args.name.now c.args.front.now c.args.ending.now c.if-name-front.false in grind (arith, whole)
