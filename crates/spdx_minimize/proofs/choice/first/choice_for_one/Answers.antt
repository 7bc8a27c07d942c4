use Rattle.std.proofs.Common.{rules, ◌≡◌, ◌∙◌, sym, ap, subst, [], ◌∷◌, map, List}
use Rattle.spdx_requirement.specs.Items.{Requirement, requirement_of}
use Rattle.spdx_parser.specs.Tree.{Leaf}
use Rattle.spdx_minimize.specs.Choice.{useful, chosen, IsLeastChoice}
use Rattle.spdx_minimize.proofs.OneRequirement.{choice_one, one_is_least, useful_few}
use Rattle.spdx_minimize.proofs.choice.first.choice_for_one.Goals as goal

pub returns-clause-ok : goal.returns-clause-ok
returns-clause-ok c =
    let r = requirement_of c.args.requirement.now in
    let ls = c.args.accepted.now in
    let is : map requirement_of c.push_reserved.new.self.items ≡ c.in-Some.first.now ∷ [] = search rules in
    choice_one r c.in-Some.first.now (useful (Leaf r ∷ []) ls) (useful_few (Leaf r ∷ []) ls c.requires) c.in-Some.ensures.first c.in-Some.ensures.satisfies ∙ ap chosen (sym is)

pub returns-clause-least : goal.returns-clause-least
returns-clause-least c =
    let r = requirement_of c.args.requirement.now in
    let trees = Leaf r ∷ [] in
    let ls = c.args.accepted.now in
    let is : map requirement_of c.push_reserved.new.self.items ≡ c.in-Some.first.now ∷ [] = search rules in
    subst (λ (z : List Requirement). IsLeastChoice trees (useful trees ls) z) (sym is) (one_is_least r c.in-Some.first.now (useful trees ls) c.in-Some.ensures.first c.in-Some.ensures.satisfies)
