use Rattle.std.proofs.Common.{◌≡◌, ◌++◌, Ok, map, drop, ℕ, List, Bor}
use Rattle.package_items.specs.Rows.{item_row}
use Rattle.package_items.specs.Members.{on_ok}
use Rattle.package_items.specs.Items.{each}
use Rattle.package_sources.specs.Several.{entry_text}
use Rattle.package_sources.proofs.several.texts_in.Given as goal

abbrev pub invariant-loop-entry : goal.invariant-loop-entry
invariant-loop-entry l =
    let shown : Bor (List ℕ) → List ℕ = λ x. x.now in
    each (entry_text l.kind) (map item_row l.entries)
    ≡ on_ok (each (entry_text l.kind) (map item_row (drop l.entry-index l.entries))) (λ more. Ok (map shown l.texts.items ++ more))
