use Rattle.std.proofs.Common.{◌≡◌, ◌++◌, map, drop, List, ℕ, Bor}
use Rattle.plain_manifests.specs.Sites.{texts_at}
use Rattle.plain_manifests.proofs.sites.texts_at.Given as goal

abbrev pub invariant-loop-span : goal.invariant-loop-span
invariant-loop-span l =
    let shown : Bor (List ℕ) → List ℕ = λ x. x.now in
    texts_at l.bytes l.places ≡ map shown l.texts.items ++ texts_at l.bytes (drop l.span-index l.places)
