use Rattle.std.proofs.Common.{◌≡◌, ◌++◌, map, length, ℕ, List, Bor}
use Rattle.std.specs.Global.{Vec}
use Rattle.package_readers.specs.Metadata.{fields}
use Rattle.package_readers.proofs.metadata.fields.Given as goal

abbrev pub invariant-loop-rest : goal.invariant-loop-rest
invariant-loop-rest l =
    let shown : Bor (List ℕ) → List ℕ = λ x. x.now in
    fields l.name (map shown l.lines) ≡ map (λ (v : Vec (Bor (List ℕ))). map shown v.items) l.all.items ++ fields l.name (map shown l.rest)

abbrev pub decreases-loop-rest : goal.decreases-loop-rest
decreases-loop-rest l = length l.rest
