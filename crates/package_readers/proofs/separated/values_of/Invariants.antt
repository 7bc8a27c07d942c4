use Rattle.std.proofs.Common.{◌≡◌, map, take, Bor, ℕ, List}
use Rattle.csv.specs.Records.{fields_of}
use Rattle.package_readers.proofs.separated.values_of.Given as goal

abbrev pub invariant-loop-index : goal.invariant-loop-index
invariant-loop-index l =
    let shown : Bor (List ℕ) → List ℕ = λ x. x.now in
    map shown l.values.items ≡ take l.index (fields_of l.row)
