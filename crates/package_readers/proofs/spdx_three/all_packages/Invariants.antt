use Rattle.std.proofs.Common.{◌≡◌, ◌++◌, Ok, map, drop}
use Rattle.package_items.specs.Rows.{item_row, row_of}
use Rattle.package_items.specs.Members.{on_ok}
use Rattle.package_readers.specs.SpdxThree.{relation_row, wording_row, all_packages}
use Rattle.package_readers.proofs.spdx_three.all_packages.Given as goal

abbrev pub invariant-loop-element : goal.invariant-loop-element
invariant-loop-element l =
    all_packages (map relation_row l.relations) (map wording_row l.wordings) (map item_row l.elements)
    ≡ on_ok (all_packages (map relation_row l.relations) (map wording_row l.wordings) (map item_row (drop l.element-index l.elements)))
    (λ more. Ok (map row_of l.all.items ++ more))
