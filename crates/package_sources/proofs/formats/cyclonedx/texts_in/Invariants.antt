use Rattle.std.proofs.Common.{◌≡◌, ◌++◌, Ok, map, drop, ℕ, List, Bor}
use Rattle.package_items.specs.Rows.{item_row}
use Rattle.package_items.specs.Members.{on_ok}
use Rattle.package_sources.specs.CycloneDx.{texts_in}
use Rattle.package_sources.proofs.formats.cyclonedx.texts_in.Given as goal

abbrev pub invariant-loop-entry : goal.invariant-loop-entry
invariant-loop-entry l =
    let shown : Bor (List ℕ) → List ℕ = λ x. x.now in
    texts_in l.only_concluded (map item_row l.entries)
    ≡ on_ok (texts_in l.only_concluded (map item_row (drop l.entry-index l.entries))) (λ more. Ok (map shown l.texts.items ++ more))
