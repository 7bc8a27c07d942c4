use Rattle.std.proofs.Common.{◌≡◌, map, length, ℕ, List, Bor}
use Rattle.package_readers.specs.Metadata.{field}
use Rattle.package_readers.proofs.metadata.field.Given as goal

abbrev pub invariant-loop-rest : goal.invariant-loop-rest
invariant-loop-rest l =
    let shown : Bor (List ℕ) → List ℕ = λ x. x.now in
    field l.name (map shown l.rest) ≡ field l.name (map shown l.lines)

abbrev pub decreases-loop-rest : goal.decreases-loop-rest
decreases-loop-rest l = length l.rest
