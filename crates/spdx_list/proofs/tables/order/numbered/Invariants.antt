use Rattle.std.proofs.Common.{◌≡◌, map, length, vec_len}
use Rattle.spdx_tables.specs.Places.{numbered}
use Rattle.spdx_list.proofs.tables.order.numbered.Given as goal

abbrev pub invariant-loop-row : goal.invariant-loop-row
invariant-loop-row g l = record {
  count : vec_len l.placed ≡ length l.yielded;
  rows : map g.R.Placed.shown l.placed.items ≡ numbered g.R.Placed.place 0 (map g.R.Placed.shown l.yielded);
}
