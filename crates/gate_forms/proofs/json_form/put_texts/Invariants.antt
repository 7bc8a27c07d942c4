use Rattle.std.proofs.Common.{◌≡◌, ℕ, ◌++◌, List, map, take}
use Rattle.std.specs.Borrow.{Bor}
use Rattle.json.specs.Token.{string}
use Rattle.gate_forms.proofs.json_form.put_texts.Given as goal

abbrev pub invariant-loop-text : goal.invariant-loop-text
invariant-loop-text l =
    (l.writer.before ≡ l.initial.writer.before) × (l.writer.tokens ≡ l.initial.writer.tokens ++ map (λ (x : Bor (List ℕ)). string x.now) (take l.text-index l.texts))
