use Rattle.std.proofs.Common.{rules, ◌≡◌, ◌∙◌, sym, ap, subst, List, ◌++◌, IfOk}
use Rattle.std.specs.List.{flat_map}
use Rattle.std.proofs.lemmas.List.{append-nil, drop_all}
use Rattle.spdx_requirement.specs.Items.{Requirement}
use Rattle.spdx_parser.specs.Tree.{leaves}
use Rattle.spdx_evaluation.specs.Requirements.{nows}
use Rattle.spdx_minimize.specs.declared.nodes.TreeNodes.{TreeNodes}
use Rattle.spdx_minimize.specs.AcceptedModel.{licensees_of}
use Rattle.spdx_minimize.specs.Choice.{useful}
use Rattle.spdx_minimize.specs.FirstPlaces.{places_for, at_places}
use Rattle.spdx_minimize.specs.Trees.{trees_in}
use Rattle.spdx_minimize.proofs.FirstPlaces.{useful_at}
use Rattle.spdx_minimize.proofs.accepted.AcceptedLicensees.useful_members.Goals as goal

pub returns-clause-useful : goal.returns-clause-useful
returns-clause-useful c =
    let ls = licensees_of c.args.self.now in
    let lists = c.args.lists.now in
    let found = c.loop-list.places.items in
    let left = c.dedup.new.self.items in
    let all : found ≡ flat_map (λ t. flat_map (places_for ls) (leaves t)) (trees_in lists) =
    sym (append-nil found)
    ∙ ap (λ (z : List TreeNodes). found ++ flat_map (λ t. flat_map (places_for ls) (leaves t)) (trees_in z)) (sym (drop_all c.loop-list.list-index lists (search rules)))
    ∙ c.loop-list.invariant.places in
    let same : at_places c.loop-list.self.licensees.now c.deref.result.now ≡ useful (trees_in lists) ls =
    ap (at_places c.loop-list.self.licensees.now) c.deref.ensures.value
    ∙ ap (λ (z : List Requirement). at_places z left) c.loop-list.invariant.licensees
    ∙ useful_at (trees_in lists) ls found c.sort.new.self.items left all c.in_ok-sort.ensures.permutation c.in_ok-sort.ensures.sorted c.dedup.ensures.filtered in
    subst (λ (z : List Requirement). IfOk c.members_at.result (λ members. nows members.items ≡ z)) same c.members_at.ensures
