use Rattle.std.proofs.Common.{◌≡◌, ◌++◌, map, drop, string_bytes, not, ℕ, List, Bor}
use Rattle.std.specs.Global.{Vec}
use Rattle.std.specs.Prelude.{filter, ◌==◌, length}
use Rattle.package_readers.specs.Metadata.{text_in, texts_at}
use Rattle.package_readers.proofs.metadata.texts_at.Given as goal

abbrev pub invariant-loop-lines : goal.invariant-loop-lines
invariant-loop-lines l =
    let shown : Bor (List ℕ) → List ℕ = λ x. x.now in
    texts_at l.name (map shown l.head)
    ≡ map string_bytes l.texts.items
    ++ filter (λ text. not (length text == 0)) (map text_in (map (λ (v : Vec (Bor (List ℕ))). map shown v.items) (drop l.lines-index l.lines-items)))
