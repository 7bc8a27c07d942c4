use Rattle.std.proofs.Common.{◌≡◌, ◌+◌, ◌++◌, Ok, map, drop, Bor, ℕ, List}
use Rattle.package_items.specs.Rows.{row_of}
use Rattle.package_items.specs.Members.{on_ok}
use Rattle.package_readers.specs.Lines.{each_line, plain}
use Rattle.package_readers.proofs.lines.packages_of.Given as goal

abbrev pub invariant-loop-index : goal.invariant-loop-index
invariant-loop-index l =
    let shown : Bor (List ℕ) → List ℕ = λ x. x.now in
    each_line plain 1 (map shown l.lines)
    ≡ on_ok (each_line plain (l.index + 1) (map shown (drop l.index l.lines))) (λ rows. Ok (map row_of l.packages.items ++ rows))
