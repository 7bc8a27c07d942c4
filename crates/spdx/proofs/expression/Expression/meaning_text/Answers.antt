use Rattle.std.proofs.Common.{◌≡◌, ◌↔◌, ℕ, List, IfOk, string_bytes, subst}
use Rattle.std.proofs.lemmas.Result.{IfOk-weaker}
use Rattle.spdx_requirement.specs.Rows.{Rows}
use Rattle.spdx_parser.specs.Tree.{Tree}
use Rattle.spdx_canonical.specs.NormalLaw.{IsStrict}
use Rattle.spdx_meaning.specs.Meaning.{IsEquivalent}
use Rattle.spdx_meaning.specs.MeaningText.{IsMeaningText}
use Rattle.spdx.proofs.expression.Expression.meaning_text.Goals as goal

-- src/expression/meaning.rt:84:5
pub returns-clause-tells : goal.returns-clause-tells
returns-clause-tells c =
    IfOk-weaker c.meaning_text.result (λ text. IsMeaningText c.args.self.now.tree (string_bytes text))
    (λ text. (rows : Rows) → (other : Tree) → (others : List ℕ) → IsStrict rows c.args.self.now.tree → IsStrict rows other → IsMeaningText other others → (string_bytes text ≡ others) ↔ IsEquivalent c.args.self.now.tree other)
    (λ text means rows other others strict strict_other means_other.
    c.meaning_texts_tell.ensures rows c.args.self.now.tree other (string_bytes text) others strict strict_other means means_other)
    (subst (λ t. IfOk c.meaning_text.result (λ text. IsMeaningText t (string_bytes text))) c.nodes.ensures.tree c.meaning_text.ensures.ok)
