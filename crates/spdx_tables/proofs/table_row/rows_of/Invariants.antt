use Rattle.std.proofs.Common.{◌≡◌, ◌++◌, option_map, map, drop}
use Rattle.serde_json.specs.View.{items_view}
use Rattle.spdx_tables.specs.Shape as spec
use Rattle.spdx_tables.proofs.table_row.rows_of.Given as goal

abbrev pub invariant-loop-index : goal.invariant-loop-index
invariant-loop-index g l =
    spec.rows_from g.R.TableRow.row_at 0 (items_view l.item-items) ≡ option_map (λ rows. map g.R.TableRow.shown l.rows.items ++ rows) (spec.rows_from g.R.TableRow.row_at l.index (items_view (drop l.index l.item-items)))
