use Rattle.std.proofs.Common.{rules, ◌≡◌, List, [], ◌++◌, map, sym, ap, ◌∙◌, append-nil}
use Rattle.std.proofs.lemmas.Slice.Zip.{firsts-zip}
use Rattle.spdx_evaluation.specs.Requirements.{PlacedRequirement}
use Rattle.spdx_parser.specs.Tree.{leaves}
use Rattle.spdx.specs.Iterators.{requirements_left}
use Rattle.spdx_calls.specs.Answers.{lines_text}
use Rattle.spdx_calls.proofs.listing.lines_in.Goals as goal

pub returns : goal.returns
returns c =
    let e = c.args.expression.now in
    let text = c.loop-requirement.text.items in
    let none : requirements_left c.loop-requirement.requirement-iterator ≡ [] = search rules in
    sym (append-nil text)
    ∙ ap (λ (ps : List PlacedRequirement). text ++ lines_text (map (λ (p : PlacedRequirement). p.0) ps)) (sym none)
    ∙ c.loop-requirement.invariant
    ∙ ap lines_text (firsts-zip (leaves e.tree) e.spans c.requirements-requirement-items.ensures.places)
