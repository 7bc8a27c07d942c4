use Rattle.std.proofs.Common.{◌≡◌, ℕ, List, map, take}
use Rattle.std.specs.Borrow.{Bor}
use Rattle.package_items.specs.Rows.{row_of}
use Rattle.package_files.specs.Documents.{references_of}
use Rattle.package_files.proofs.mentions.references_of.Given as goal

abbrev pub invariant-loop-package : goal.invariant-loop-package
invariant-loop-package l =
    let shown : Bor (List ℕ) → List ℕ = λ x. x.now in
    map shown l.references.items ≡ references_of (map row_of (take l.package-index l.packages))
