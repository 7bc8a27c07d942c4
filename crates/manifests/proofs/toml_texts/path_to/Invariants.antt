use Rattle.std.proofs.Common.{◌≡◌, ◌∷◌, ◌++◌, map, drop, List, ℕ, Bor}
use Rattle.manifests.specs.Steps.{Key, of_toml}
use Rattle.manifests.proofs.toml_texts.path_to.Given as goal

abbrev pub invariant-loop-key : goal.invariant-loop-key
invariant-loop-key l =
    let shown : Bor (List ℕ) → List ℕ = λ x. x.now in
    map of_toml l.steps.items ++ map Key (map shown (drop l.key-index l.keys)) ≡ Key l.fn.key ∷ map Key (map shown l.keys)
