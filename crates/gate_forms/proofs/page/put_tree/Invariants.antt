use Rattle.std.proofs.Common.{◌≡◌, ◌++◌, take, flat_map}
use Rattle.foreign_text.specs.PageText.{page_text}
use Rattle.gate_forms.specs.Page.{node_part}
use Rattle.gate_forms.proofs.page.put_tree.Given as goal

abbrev pub invariant-loop-node : goal.invariant-loop-node
invariant-loop-node l =
    l.page.items ≡ l.initial.page.items ++ flat_map (node_part page_text) (take l.node-index l.nodes)
