use Rattle.std.proofs.Common.{◌≡◌, ◌++◌, ℕ, List, map, length}
use Rattle.std.specs.Borrow.{Bor}
use Rattle.package_files.specs.Texts.{references_in, references_behind}
use Rattle.package_files.proofs.texts.references_in.Given as goal

abbrev pub invariant-loop-rest : goal.invariant-loop-rest
invariant-loop-rest l =
    let shown : Bor (List ℕ) → List ℕ = λ x. x.now in
    references_in l.text ≡ map shown l.references.items ++ references_behind l.before l.rest

abbrev pub decreases-loop-rest : goal.decreases-loop-rest
decreases-loop-rest l = length l.rest
