use Rattle.std.proofs.Common.{◌≡◌, ◌++◌, take, flat_map, string_bytes}
use Rattle.gate_forms.specs.Human.{leaf_line}
use Rattle.gate_forms.proofs.text.human.put_leaf_lines.Given as goal

abbrev pub invariant-loop-leaf : goal.invariant-loop-leaf
invariant-loop-leaf l =
    string_bytes l.lines ≡ string_bytes l.initial.lines ++ flat_map (leaf_line l.style l.expression) (take l.leaf-index l.leaves)
