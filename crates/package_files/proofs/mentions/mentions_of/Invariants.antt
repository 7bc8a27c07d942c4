use Rattle.std.proofs.Common.{◌≡◌, ℕ, List, map, take}
use Rattle.std.specs.Borrow.{Bor}
use Rattle.package_files.specs.Mentions.{mention, mention_row}
use Rattle.package_files.proofs.mentions.mentions_of.Given as goal

abbrev pub invariant-loop-reference : goal.invariant-loop-reference
invariant-loop-reference l =
    let shown : Bor (List ℕ) → List ℕ = λ x. x.now in
    map mention_row l.mentions.items ≡ map (mention l.document) (map shown (take l.reference-index l.reference-items))
