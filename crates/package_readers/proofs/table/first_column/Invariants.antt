use Rattle.std.proofs.Common.{◌≡◌, map, drop, Bor, ℕ, List}
use Rattle.package_readers.specs.Tables.{first_column}
use Rattle.package_readers.proofs.table.first_column.Given as goal

abbrev pub invariant-loop-word : goal.invariant-loop-word
invariant-loop-word l =
    let shown : Bor (List ℕ) → List ℕ = λ x. x.now in
    first_column (map shown l.words) (map shown l.names) ≡ first_column (map shown (drop l.word-index l.words)) (map shown l.names)
