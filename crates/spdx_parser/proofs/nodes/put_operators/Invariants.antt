use Rattle.std.proofs.Common.{◌≡◌, ◌++◌, map}
use Rattle.spdx_parser.specs.Nodes.{placed_node}
use Rattle.spdx_parser.specs.State.{operators}
use Rattle.spdx_parser.proofs.nodes.put_operators.Given as goal

abbrev pub invariant-loop-i : goal.invariant-loop-i
invariant-loop-i l = map placed_node l.nodes.items ≡ map placed_node l.initial.nodes.items ++ operators l.operator l._i
