use Rattle.std.proofs.Common.{rules, List, map, subst}
use Rattle.std.specs.List.Sorted.{IsPermutation}
use Rattle.std.proofs.lemmas.Fn.{always_returns_same}
use Rattle.std.proofs.lemmas.List.MinMax.{ranks_by}
use Rattle.std.proofs.lemmas.List.Sorted.{IsPermutation-map}
use Rattle.spdx_requirement.specs.Items.{Requirement, requirement_of}
use Rattle.spdx_requirement.specs.Orders.{requirement_cmp}
use Rattle.spdx_meaning.specs.Sets.{is_before}
use Rattle.spdx_meaning.proofs.Order.{requirements_total}
use Rattle.spdx_meaning.proofs.text.ranking.in_order.Goals as goal

pub returns-clause-same : goal.returns-clause-same
returns-clause-same c =
    let sorted = c.sort_unstable_by.new.self.items in
    let copies = c.in_ok-ordered.ordered.items in
    subst (λ (qs : List Requirement). IsPermutation qs (map requirement_of sorted)) c.in_ok-ordered.ensures
    (IsPermutation-map requirement_of copies sorted c.sort_unstable_by.ensures.permutation)

pub returns-clause-up : goal.returns-clause-up
returns-clause-up c =
    c.sort_unstable_by.ensures.sorted (λ x y. is_before requirement_cmp (requirement_of x) (requirement_of y)) (ranks_by requirements_total requirement_of) (search (rules, always_returns_same))
