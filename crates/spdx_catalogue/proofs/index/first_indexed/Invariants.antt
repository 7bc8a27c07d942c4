use Rattle.spdx_catalogue.specs.Index.{fits}
use Rattle.spdx_catalogue.proofs.Keys.{Passed}
use Rattle.spdx_catalogue.proofs.index.first_indexed.Given as goal

abbrev pub invariant-loop-at : goal.invariant-loop-at
invariant-loop-at g l = Passed (λ r. fits l.sought (g.R.Keyed.text_of r)) l.rows l.index.codes.items l.wanted l.at
