use Rattle.std.proofs.Common.{◌≡◌, ◌++◌, map, drop, ℕ, List, Bor}
use Rattle.package_readers.specs.SpdxThree.{relation_row, wording_row, texts_for}
use Rattle.package_readers.proofs.spdx_three.texts_for.Given as goal

abbrev pub invariant-loop-relation : goal.invariant-loop-relation
invariant-loop-relation l =
    let shown : Bor (List ℕ) → List ℕ = λ x. x.now in
    texts_for (map wording_row l.wordings) l.kind l.from (map relation_row l.relations)
    ≡ map shown l.texts.items ++ texts_for (map wording_row l.wordings) l.kind l.from (map relation_row (drop l.relation-index l.relations))
