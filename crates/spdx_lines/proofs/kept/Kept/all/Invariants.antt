use Rattle.std.proofs.Common.{◌≡◌, map, take}
use Rattle.spdx.specs.Value.{trees_of}
use Rattle.spdx_lines.proofs.kept.Kept.all.Given as goal

abbrev pub invariant-loop-expression : goal.invariant-loop-expression
invariant-loop-expression l = trees_of l.all.items ≡ map (λ e. e.tree) (take l.expression-index l.self.expressions.items)
