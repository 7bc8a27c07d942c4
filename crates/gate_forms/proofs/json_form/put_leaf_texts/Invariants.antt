use Rattle.std.proofs.Common.{◌≡◌, ◌++◌, map, take}
use Rattle.json.specs.Token.{string}
use Rattle.gate_forms.specs.declared.reports.Leaf.{Leaf}
use Rattle.gate_forms.proofs.json_form.put_leaf_texts.Given as goal

abbrev pub invariant-loop-leaf : goal.invariant-loop-leaf
invariant-loop-leaf l =
    (l.writer.before ≡ l.initial.writer.before) × (l.writer.tokens ≡ l.initial.writer.tokens ++ map (λ (x : Leaf). string x.text.now) (take l.leaf-index l.leaves))
