-- What is said of a text is said of its normal text.
use Rattle.std.specs.Prelude.{◌≡◌, ℕ, false, List}
use Rattle.std.proofs.Common.{◌⊎◌}
use Rattle.spdx_requirement.specs.Rows.{Rows}
use Rattle.spdx_parser.specs.Tree.{Tree}
use Rattle.spdx_canonical.specs.Normal.{normal_text}
use Rattle.spdx_canonical.specs.NormalLaw.{IsStrict}
use Rattle.spdx_policy.specs.Rules.{Rules}
use Rattle.spdx_gate.specs.declared.judgement.Outcome.{Outcome}
use Rattle.spdx_gate.specs.Judging.{mode_of, IsOutcome}
use Rattle.spdx_gate.specs.Reports.{Means}
use Rattle.spdx_gate.specs.Spelling.{strictly}
use Rattle.spdx_gate.specs.Alike.{BothSayAlike}

-- The normal text, read strictly, is judged as the text is: where the policy has texts read
-- strictly; and where it doesn't, if some text that is read strictly means the same tree.
abbrev pub NormalTextAgrees : Rows → Rules → List ℕ → List ℕ → Outcome → Type 0
NormalTextAgrees c p tables text o =
    (t : Tree) → Means c (mode_of p) text t → (p.lax ≡ false) ⊎ IsStrict c t
    → (normal : Outcome) → IsOutcome c (strictly p) tables (normal_text t) normal →
    BothSayAlike normal o
