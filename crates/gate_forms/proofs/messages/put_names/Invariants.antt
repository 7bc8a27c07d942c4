use Rattle.std.proofs.Common.{◌≡◌, ℕ, List, ◌++◌, take, flat_map, codes, string_bytes}
use Rattle.std.specs.Borrow.{Bor}
use Rattle.gate_forms.specs.Report.{name_text}
use Rattle.gate_forms.proofs.messages.put_names.Given as goal

abbrev pub invariant-loop-name : goal.invariant-loop-name
invariant-loop-name l =
    string_bytes l.line ≡ string_bytes l.initial.line ++ flat_map (λ (x : Bor (List ℕ)). codes ", " ++ name_text l.how x) (take l.name-index l.others)
