use Rattle.std.proofs.Common.{◌≡◌, option_map}
use Rattle.spdx_requirement.specs.Ids.{id_row}
use Rattle.spdx_lexer.specs.Remainder.{items_left}
use Rattle.spdx_canonical.specs.Canonical.{canonical_of}
use Rattle.spdx_canonical.proofs.Continued.{continued, Places}
use Rattle.spdx_canonical.proofs.text.canonical.Given as goal

abbrev pub invariant-loop-item : goal.invariant-loop-item
invariant-loop-item l =
    (l.draft.text ≡ l.text) × (canonical_of l.catalogue l.text ≡ continued l.draft (option_map id_row l.before) (items_left l.item-iterator)) × Places l.text (items_left l.item-iterator)
