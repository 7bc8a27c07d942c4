use Rattle.std.proofs.Common.{◌≡◌, map, drop, List, ℕ, Bor}
use Rattle.toml.specs.View.{view}
use Rattle.manifests.specs.Toml.{value_behind}
use Rattle.manifests.proofs.toml_texts.value_behind.Given as goal

abbrev pub invariant-loop-key : goal.invariant-loop-key
invariant-loop-key l =
    let shown : Bor (List ℕ) → List ℕ = λ x. x.now in
    value_behind (map shown (drop l.key-index l.keys)) (view l.value) ≡ value_behind (map shown l.keys) (view l.fn.value)
