-- Normal texts of strict trees over one catalogue are equal exactly where the trees are the same.
use Rattle.std.proofs.Common.{◌≡◌, ℕ, List, sym, ◌∙◌, ap, ◌↔◌, IsTrue}
use Rattle.spdx_requirement.specs.Rows.{Rows}
use Rattle.spdx_parser.specs.Tree.{Tree}
use Rattle.spdx_canonical.specs.Normal.{normal_text}
use Rattle.spdx_canonical.specs.NormalLaw.{IsStrict}
use Rattle.spdx_canonical.proofs.NormalLaws as Laws
use Rattle.spdx.specs.Equality.{same_tree, tree_key}
use Rattle.spdx.specs.EqualityLaws.{trees_decide, tree_told}

pub tells : (c : Rows) (t u : Tree) (text : List ℕ) → text ≡ normal_text t → IsStrict c t → IsStrict c u → (text ≡ normal_text u) ↔ IsTrue (same_tree t u)
tells c t u text e s r =
    let same = Laws.tells c t u s r in
    let there = trees_decide t u in (
      (λ k. there.1 (ap tree_key (same.0 (sym e ∙ k)))),
      (λ k. e ∙ same.1 (tree_told c t u (Laws.strict_rows c t s) (Laws.strict_rows c u r) (there.0 k))),
    )
