use Rattle.std.proofs.Common.{take}
use Rattle.spdx_list.specs.Diff.{nows}
use Rattle.spdx_list.specs.Shown.{shown_extras}
use Rattle.list_told.specs.Texts.{AreTexts}
use Rattle.list_told.specs.Told.{IsTextOf}
use Rattle.list_told.proofs.rows.rows_text.Given as goal

abbrev pub invariant-loop-name : goal.invariant-loop-name
invariant-loop-name l =
    AreTexts (IsTextOf l.catalogue (shown_extras l.extras)) (nows (take l.name-index l.names)) l.text.items
