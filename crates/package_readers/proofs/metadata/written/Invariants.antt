use Rattle.std.proofs.Common.{◌≡◌, ◌+◌, ◌≤◌, map, drop, ℕ, List, Bor}
use Rattle.package_readers.specs.Metadata.{written}
use Rattle.package_readers.proofs.metadata.written.Given as goal

abbrev pub invariant-loop-line : goal.invariant-loop-line
invariant-loop-line l =
    let shown : Bor (List ℕ) → List ℕ = λ x. x.now in
    (written (map shown l.lines) ≡ l.count + written (map shown (drop l.line-index l.lines)))
    × (l.count ≤ l.line-index)
