use Rattle.std.proofs.Common.{◌≡◌, map, drop, ℕ, List, Bor}
use Rattle.std.specs.List.{list_all}
use Rattle.package_items.specs.Texts.{is_unstated}
use Rattle.package_items.proofs.joined.are_unstated.Given as goal

abbrev pub invariant-loop-one : goal.invariant-loop-one
invariant-loop-one l =
    let shown : Bor (List ℕ) → List ℕ = λ x. x.now in
    list_all is_unstated (map shown l.texts) ≡ list_all is_unstated (map shown (drop l.one-index l.texts))
