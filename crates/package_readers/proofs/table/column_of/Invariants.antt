use Rattle.std.proofs.Common.{◌≡◌, map, drop, Bor, ℕ, List}
use Rattle.std.specs.List.{position_from}
use Rattle.package_readers.specs.Tables.{is_word}
use Rattle.package_readers.proofs.table.column_of.Given as goal

abbrev pub invariant-loop-index : goal.invariant-loop-index
invariant-loop-index l =
    let shown : Bor (List ℕ) → List ℕ = λ x. x.now in
    position_from (is_word l.word) 0 (map shown l.names) ≡ position_from (is_word l.word) l.index (map shown (drop l.index l.names))
