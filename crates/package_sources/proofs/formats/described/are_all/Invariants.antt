use Rattle.std.proofs.Common.{◌≡◌, map, drop, List, ℕ, Bor}
use Rattle.std.specs.Prelude.{bytes_eq}
use Rattle.std.specs.List.{list_all}
use Rattle.package_sources.proofs.formats.described.are_all.Given as goal

abbrev pub invariant-loop-other : goal.invariant-loop-other
invariant-loop-other l =
    let shown : Bor (List ℕ) → List ℕ = λ x. x.now in
    list_all (bytes_eq l.id) (map shown l.ids) ≡ list_all (bytes_eq l.id) (map shown (drop l.other-index l.ids))
