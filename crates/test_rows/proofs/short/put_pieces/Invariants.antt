use Rattle.std.proofs.Common.{◌≡◌, ◌++◌, map, take, flat_map, string_bytes, ℕ, List, Bor}
use Rattle.test_rows.specs.Short as spec
use Rattle.test_rows.proofs.short.put_pieces.Given as goal

abbrev pub invariant-loop-piece : goal.invariant-loop-piece
invariant-loop-piece l =
    let shown : Bor (List ℕ) → List ℕ = λ x. x.now in
    string_bytes l.whole ≡ string_bytes l.initial.whole ++ flat_map spec.piece_out (map shown (take l.piece-index l.pieces))
