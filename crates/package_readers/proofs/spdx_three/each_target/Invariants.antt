use Rattle.std.proofs.Common.{◌≡◌, map, take, ℕ, List, Bor}
use Rattle.package_readers.specs.SpdxThree.{relation_row, each_target}
use Rattle.package_readers.proofs.spdx_three.each_target.Given as goal

abbrev pub invariant-loop-to : goal.invariant-loop-to
invariant-loop-to l =
    let shown : Bor (List ℕ) → List ℕ = λ x. x.now in
    map relation_row l.relations.items ≡ each_target l.kind l.from (map shown (take l.to-index l.targets))
