use Rattle.std.proofs.Common.{◌≡◌, ◌++◌, map, drop, ℕ, List, Bor}
use Rattle.package_readers.specs.Metadata.{folded, with_folded}
use Rattle.package_readers.proofs.metadata.with_folded.Given as goal

abbrev pub invariant-loop-line : goal.invariant-loop-line
invariant-loop-line l =
    let shown : Bor (List ℕ) → List ℕ = λ x. x.now in
    with_folded l.text (map shown l.lines) ≡ map shown l.all.items ++ folded (map shown (drop l.line-index l.lines))
