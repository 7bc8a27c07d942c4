use Rattle.std.proofs.Common.{◌≡◌, ◌++◌, Ok, map, drop, ℕ, List, Bor}
use Rattle.package_items.specs.Rows.{item_row}
use Rattle.package_items.specs.Members.{on_ok}
use Rattle.package_items.specs.Items.{texts_of}
use Rattle.package_items.proofs.member.texts_of.Given as goal

abbrev pub invariant-loop-item : goal.invariant-loop-item
invariant-loop-item l =
    let shown : Bor (List ℕ) → List ℕ = λ x. x.now in
    texts_of (map item_row l.items)
    ≡ on_ok (texts_of (map item_row (drop l.item-index l.items))) (λ more. Ok (map shown l.texts.items ++ more))
