use Rattle.std.proofs.Common.{◌≡◌, map, drop, Bor, ℕ, List}
use Rattle.std.specs.List.{list_all}
use Rattle.package_items.specs.Texts.{is_blank}
use Rattle.package_readers.proofs.table.are_blank.Given as goal

abbrev pub invariant-loop-value : goal.invariant-loop-value
invariant-loop-value l =
    let shown : Bor (List ℕ) → List ℕ = λ x. x.now in
    list_all is_blank (map shown l.values) ≡ list_all is_blank (map shown (drop l.value-index l.values))
