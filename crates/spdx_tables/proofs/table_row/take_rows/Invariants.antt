use Rattle.std.proofs.Common.{◌≡◌, ◌++◌, true, map, length, vec_len}
use Rattle.std.specs.List.{list_all}
use Rattle.spdx_tables.specs.Places.{numbered}
use Rattle.spdx_tables.proofs.Tokens.{rows_tokens}
use Rattle.spdx_tables.proofs.table_row.take_rows.Given as goal

abbrev pub invariant-loop-alloc : goal.invariant-loop-alloc
invariant-loop-alloc g l = record {
  count : vec_len l.rows ≡ length l.rows.items;
  tokens : l.initial.reader ≡ rows_tokens g.R.TableRow.as_data (map g.R.TableRow.shown l.rows.items) ++ l.reader;
  fit : list_all g.R.TableRow.fits (map g.R.TableRow.shown l.rows.items) ≡ true;
  numbered : numbered g.R.TableRow.place 0 (map g.R.TableRow.shown l.rows.items) ≡ map g.R.TableRow.shown l.rows.items;
}

abbrev pub decreases-loop-alloc : goal.decreases-loop-alloc
decreases-loop-alloc g l = length l.reader
