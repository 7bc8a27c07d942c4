use Rattle.std.proofs.Common.{◌≡◌, ◌++◌, map, drop, ℕ, List, Bor}
use Rattle.package_readers.specs.Metadata.{head_of}
use Rattle.package_readers.proofs.metadata.head_of.Given as goal

abbrev pub invariant-loop-line : goal.invariant-loop-line
invariant-loop-line l =
    let shown : Bor (List ℕ) → List ℕ = λ x. x.now in
    head_of (map shown l.lines) ≡ map shown l.head.items ++ head_of (map shown (drop l.line-index l.lines))
