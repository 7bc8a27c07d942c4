use Rattle.std.proofs.Common.{◌≡◌, ◌++◌, Ok, map, drop}
use Rattle.package_items.specs.Rows.{item_row}
use Rattle.package_items.specs.Members.{on_ok}
use Rattle.package_readers.specs.SpdxThree.{wording_row, wordings}
use Rattle.package_readers.proofs.spdx_three.wordings.Given as goal

abbrev pub invariant-loop-element : goal.invariant-loop-element
invariant-loop-element l =
    wordings (map item_row l.elements)
    ≡ on_ok (wordings (map item_row (drop l.element-index l.elements))) (λ more. Ok (map wording_row l.all.items ++ more))
