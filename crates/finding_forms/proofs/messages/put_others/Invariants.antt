use Rattle.std.proofs.Common.{◌≡◌, ℕ, ◌++◌, List, take, flat_map, codes, string_bytes}
use Rattle.std.specs.Borrow.{Bor}
use Rattle.finding_forms.specs.Message.{named}
use Rattle.finding_forms.proofs.messages.put_others.Given as goal

abbrev pub invariant-loop-name : goal.invariant-loop-name
invariant-loop-name l =
    string_bytes l.line ≡ string_bytes l.initial.line ++ flat_map (λ (x : Bor (List ℕ)). codes ", " ++ named l.how x.now) (take l.name-index l.front)
