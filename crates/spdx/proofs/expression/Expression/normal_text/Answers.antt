use Rattle.std.proofs.Common.{ℕ, List, sym, ◌∙◌, ap, subst, string_bytes}
use Rattle.spdx_parser.specs.Tree.{postfix}
use Rattle.spdx_canonical.specs.NormalLaw.{ReadsAs, HasFewestParens}
use Rattle.spdx_canonical.proofs.NormalLaws.{reads, fewest}
use Rattle.spdx.proofs.Leaves.{if_ok}
use Rattle.spdx.proofs.Telling.{tells}
use Rattle.spdx.proofs.expression.Expression.normal_text.Goals as goal

pub returns-clause-text : goal.returns-clause-text
returns-clause-text c = if_ok c.normal_text.result c.normal_text.ensures (λ text is. is c.args.self.now.tree (c.nodes.ensures.postfix ∙ ap postfix c.nodes.ensures.tree))

pub returns-clause-read : goal.returns-clause-read
returns-clause-read c =
    let t = c.args.self.now.tree in
    if_ok c.normal_text.result (returns-clause-text c) (λ text is rows s. subst (λ (x : List ℕ). ReadsAs rows x t) (sym is) (reads rows t s))

pub returns-clause-fewest : goal.returns-clause-fewest
returns-clause-fewest c =
    let t = c.args.self.now.tree in
    if_ok c.normal_text.result (returns-clause-text c) (λ text is rows s. subst (λ (x : List ℕ). HasFewestParens rows x t) (sym is) (fewest rows t s))

pub returns-clause-tells : goal.returns-clause-tells
returns-clause-tells c = if_ok c.normal_text.result (returns-clause-text c) (λ text is rows other s r. tells rows c.args.self.now.tree other (string_bytes text) is s r)
