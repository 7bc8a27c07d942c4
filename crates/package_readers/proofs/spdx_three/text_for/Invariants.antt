use Rattle.std.proofs.Common.{◌≡◌, map, drop}
use Rattle.package_readers.specs.SpdxThree.{wording_row, text_for}
use Rattle.package_readers.proofs.spdx_three.text_for.Given as goal

abbrev pub invariant-loop-wording : goal.invariant-loop-wording
invariant-loop-wording l =
    text_for (map wording_row l.wordings) l.id ≡ text_for (map wording_row (drop l.wording-index l.wordings)) l.id
