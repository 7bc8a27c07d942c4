use Rattle.std.proofs.Common.{[], ◌∷◌, ◌++◌, map, ap, ◌∙◌}
use Rattle.std.proofs.lemmas.List.{map-append}
use Rattle.spdx.specs.Value.{Written}
use Rattle.spdx_lines.specs.Trees.{trees_in}
use Rattle.spdx_lines.proofs.Keeping.{kept_again, kept_pushed}
use Rattle.spdx_lines.proofs.kept.Kept.keep.Goals as goal

pub returns-then-has : goal.returns-then-has
returns-then-has c = λ catalogue trees h row. kept_again catalogue (trees_in c.args.self.now) trees c.args.expression.tree h (c.has.ensures c.if-has.true catalogue trees h row)

pub returns : goal.returns
returns c = λ catalogue trees h row.
    let before = c.args.self.now.expressions.items in
    kept_pushed catalogue (trees_in c.args.self.now) _ trees c.args.expression.tree
    (ap (map (λ e. e.tree)) c.in_ok-push.ensures.items
    ∙ map-append (λ e. e.tree) before (c.shrink_to_fit.new.self ∷ [])
    ∙ ap (λ t. map (λ e. e.tree) before ++ t ∷ []) (ap (λ (e : Written). e.tree) c.shrink_to_fit.ensures ∙ c.forget_text.ensures.tree)) h row
