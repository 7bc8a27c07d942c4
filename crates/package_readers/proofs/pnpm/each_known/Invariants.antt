use Rattle.std.proofs.Common.{◌≡◌, map, take, ℕ, List, Bor, Some}
use Rattle.std.specs.Option.{option_copied}
use Rattle.package_readers.proofs.pnpm.each_known.Given as goal

abbrev pub invariant-loop-text : goal.invariant-loop-text
invariant-loop-text l =
    let shown : Bor (List ℕ) → List ℕ = λ x. x.now in
    map option_copied l.versions.items ≡ map Some (map shown (take l.text-index l.texts))
