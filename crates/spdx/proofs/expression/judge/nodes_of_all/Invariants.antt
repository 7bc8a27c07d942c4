use Rattle.std.proofs.Common.{◌≡◌, ◌++◌, drop}
use Rattle.spdx_minimize.specs.Trees.{trees_in}
use Rattle.spdx.specs.Value.{trees_of}
use Rattle.spdx.proofs.expression.judge.nodes_of_all.Given as goal

abbrev pub invariant-loop-expr : goal.invariant-loop-expr
invariant-loop-expr l = trees_in l.lists.items ++ trees_of (drop l.expr-index l.exprs) ≡ trees_of l.exprs
