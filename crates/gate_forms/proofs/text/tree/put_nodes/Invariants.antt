use Rattle.std.proofs.Common.{◌≡◌, ◌++◌, take, flat_map, string_bytes}
use Rattle.gate_forms.specs.Human.{node_line}
use Rattle.gate_forms.proofs.text.tree.put_nodes.Given as goal

abbrev pub invariant-loop-node : goal.invariant-loop-node
invariant-loop-node l =
    string_bytes l.lines ≡ string_bytes l.initial.lines ++ flat_map (node_line l.style) (take l.node-index l.nodes)
