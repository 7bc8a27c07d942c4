use Rattle.spdx_catalogue.proofs.Keys.{AreCodes}
use Rattle.spdx_catalogue.proofs.index.index_of.Given as goal

abbrev pub invariant-loop-place : goal.invariant-loop-place
invariant-loop-place g l = AreCodes g.R.Keyed.keyed_of l.rows l.codes.items l.place
