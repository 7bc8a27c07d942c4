use Rattle.std.proofs.Common.{rules, ◌≡◌, List, [], ◌++◌, map, sym, ap, ◌∙◌, append-nil}
use Rattle.std.proofs.lemmas.Slice.Zip.{firsts-zip}
use Rattle.spdx_evaluation.specs.Requirements.{PlacedRequirement}
use Rattle.spdx_parser.specs.Tree.{leaves}
use Rattle.spdx.specs.Iterators.{requirements_left}
use Rattle.choice_program.specs.Named.{named, shown}
use Rattle.choice_program.proofs.named.named_in.Goals as goal

pub returns : goal.returns
returns c =
    let e = c.args.expression.now in
    let all = map shown c.loop-requirement.all.items in
    let none : requirements_left c.loop-requirement.requirement-iterator ≡ [] = search rules in
    sym (append-nil all)
    ∙ ap (λ (ps : List PlacedRequirement). all ++ map named (map (λ (p : PlacedRequirement). p.0) ps)) (sym none)
    ∙ c.loop-requirement.invariant
    ∙ ap (map named) (firsts-zip (leaves e.tree) e.spans c.requirements-requirement-items.ensures.places)
