use Rattle.std.proofs.Common.{◌≡◌, ◌++◌, flat_map, map, string_bytes, take}
use Rattle.std.specs.Prelude.{codes}
use Rattle.meaning_program.proofs.sayings.put_others.Given as goal

abbrev pub invariant-loop-name : goal.invariant-loop-name
invariant-loop-name l =
    l.text.items ≡ l.initial.text.items ++ flat_map (λ n. codes " and " ++ n) (map string_bytes (take l.name-index l.names))
