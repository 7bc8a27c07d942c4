use Rattle.std.proofs.Common.{◌≡◌, true, map, take}
use Rattle.std.specs.List.{list_all}
use Rattle.serde_json.specs.View.{view}
use Rattle.spdx_list.proofs.text.values_of.Given as goal

abbrev pub invariant-loop-row : goal.invariant-loop-row
invariant-loop-row g l = record {
  values : map view l.values.items ≡ map g.R.Written.as_data (map g.R.Written.shown (take l.row-index l.rows));
  fit : list_all g.R.Written.fits (map g.R.Written.shown (take l.row-index l.rows)) ≡ true;
}
