use Rattle.std.proofs.Common.{ℕ, List, map, take}
use Rattle.std.specs.Borrow.{Bor}
use Rattle.meaning_program.specs.Simplified.{told_of}
use Rattle.meaning_program.proofs.Lining.{Sofar}
use Rattle.meaning_program.proofs.simplified.simplified_lines.Given as goal

abbrev pub invariant-loop-index : goal.invariant-loop-index
invariant-loop-index l =
    let shown : Bor (List ℕ) → List ℕ = λ x. x.now in
    Sofar l.catalogue l.is_lax (map shown (take l.index l.lines)) l.simplified.text.items (map told_of l.simplified.unmeant.items)
