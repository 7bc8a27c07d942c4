-- All laws of the canonical text.
use Rattle.std.proofs.Common.{ℕ, List, IsTrue}
use Rattle.spdx_requirement.specs.Rows.{Rows}
use Rattle.spdx_catalogue.specs.RowRules.{is_well_formed}
use Rattle.spdx_canonical.specs.Law.{CanonicalLaws}
use Rattle.spdx_canonical.proofs.Sound.{defined, faithful, telling}
use Rattle.spdx_canonical.proofs.Otherwise.{otherwise}

pub laws : (c : Rows) → IsTrue (is_well_formed c) → (text : List ℕ) → CanonicalLaws c text
laws c well text = record {
  defined = defined c well text;
  faithful = faithful c well text;
  telling = λ ws t s other vs u o. telling c well ws vs t u (faithful c well text ws t s) (faithful c well other vs u o);
  otherwise = otherwise c well text;
}
