use Rattle.std.proofs.Common.{◌≡◌, ◌++◌, string_bytes, flat_map, map, take, ℕ, List, Bor}
use Rattle.package_items.specs.Texts.{behind_word}
use Rattle.package_items.proofs.joined.put_rest.Given as goal

abbrev pub invariant-loop-part : goal.invariant-loop-part
invariant-loop-part l =
    let shown : Bor (List ℕ) → List ℕ = λ x. x.now in
    string_bytes l.line ≡ string_bytes l.initial.line ++ flat_map (behind_word l.word) (map shown (take l.part-index l.rest))
