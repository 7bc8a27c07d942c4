use Rattle.std.proofs.Common.{◌≡◌, map, drop, ℕ, List, Bor}
use Rattle.std.specs.List.{find}
use Rattle.package_items.specs.Texts.{is_open}
use Rattle.package_items.proofs.joined.first_open.Given as goal

abbrev pub invariant-loop-one : goal.invariant-loop-one
invariant-loop-one l =
    let shown : Bor (List ℕ) → List ℕ = λ x. x.now in
    find is_open (map shown l.texts) ≡ find is_open (map shown (drop l.one-index l.texts))
