use Rattle.std.proofs.Common.{◌≡◌, map, drop, List, ℕ, Bor}
use Rattle.plain_manifests.proofs.sites.are_texts.Given as goal

abbrev pub invariant-loop-index : goal.invariant-loop-index
invariant-loop-index l =
    let shown : Bor (List ℕ) → List ℕ = λ x. x.now in
    map shown (drop l.index l.texts) ≡ map shown (drop l.index l.wanted)
    → map shown l.texts ≡ map shown l.wanted
