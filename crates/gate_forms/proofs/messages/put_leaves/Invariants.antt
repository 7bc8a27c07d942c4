use Rattle.std.proofs.Common.{◌≡◌, ◌++◌, take, flat_map, codes, string_bytes}
use Rattle.gate_forms.specs.Report.{leaf_text}
use Rattle.gate_forms.proofs.messages.put_leaves.Given as goal

abbrev pub invariant-loop-leaf : goal.invariant-loop-leaf
invariant-loop-leaf l =
    string_bytes l.line ≡ string_bytes l.initial.line ++ flat_map (λ x. codes ", " ++ leaf_text l.how x) (take l.leaf-index l.others)
