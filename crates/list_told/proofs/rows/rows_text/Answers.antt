use Rattle.std.proofs.Common.{List, ℕ, ◌++◌, ◌∙◌, ap}
use Rattle.spdx_list.specs.Shown.{shown_extras}
use Rattle.list_told.specs.Told.{IsTextOf}
use Rattle.list_told.proofs.Behind.{none_yet, one_more}
use Rattle.list_told.proofs.rows.rows_text.Goals as goal

pub loop-name-init : goal.loop-name-init
loop-name-init c =
    none_yet (IsTextOf c.args.catalogue.now (shown_extras c.args.extras.now)) c.new-text.result.items c.new-text.ensures.items

pub loop-name-preserved : goal.loop-name-preserved
loop-name-preserved c =
    one_more (IsTextOf c.args.catalogue.now (shown_extras c.args.extras.now)) (λ name. name.now) c.args.names.now c.loop-name.name-index _
    c.loop-name.text.items c.in_ok-row.row.items c.extend_from_slice.new.self.items
    c.loop-name.invariant c.loop-name-test.true c.in_ok-row.ensures
    (c.in_ok-extend_from_slice.ensures.items ∙ ap (λ (bytes : List ℕ). c.loop-name.text.items ++ bytes) c.deref.ensures.value)
