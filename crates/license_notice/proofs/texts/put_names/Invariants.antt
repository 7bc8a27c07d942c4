use Rattle.std.proofs.Common.{◌≡◌, ℕ, List, ◌++◌, map, take, string_bytes}
use Rattle.std.specs.Borrow.{Bor}
use Rattle.license_notice.proofs.texts.put_names.Given as goal

abbrev pub invariant-loop-name : goal.invariant-loop-name
invariant-loop-name l =
    map (λ (t : Bor (List ℕ)). t.now) l.texts.items ≡ map (λ (t : Bor (List ℕ)). t.now) l.initial.texts.items ++ map string_bytes (take l.name-index l.names)
