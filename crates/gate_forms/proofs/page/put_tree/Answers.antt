use Rattle.std.proofs.Common.{append_assoc}
use Rattle.std.proofs.Common.{◌≤◌, length, arith}
use Rattle.std.proofs.lemmas.List.{take_all}
use Rattle.gate_forms.proofs.page.put_tree.Goals as goal

pub returns : goal.returns
returns c =
    let all : length c.args.nodes.now ≤ c.loop-node.node-index = omega arith in
    rw (c.in_ok-extend_from_slice-2.ensures.items, c.loop-node.invariant, take_all c.loop-node.node-index c.args.nodes.now all, c.in_ok-extend_from_slice.ensures.items)
    (simp append_assoc)
