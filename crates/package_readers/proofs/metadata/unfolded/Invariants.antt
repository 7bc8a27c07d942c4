use Rattle.std.proofs.Common.{◌≡◌, map, take, flat_map, string_bytes, ℕ, List, Bor}
use Rattle.package_readers.specs.Metadata.{behind_blank}
use Rattle.package_readers.proofs.metadata.unfolded.Given as goal

abbrev pub invariant-loop-line : goal.invariant-loop-line
invariant-loop-line l =
    let shown : Bor (List ℕ) → List ℕ = λ x. x.now in
    string_bytes l.text ≡ flat_map behind_blank (map shown (take l.line-index l.lines))
