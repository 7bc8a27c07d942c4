use Rattle.std.proofs.Common.{rules, ℕ, List, map, subst}
use Rattle.std.specs.Ordering.{is_lt}
use Rattle.std.specs.List.Sorted.{IsPermutation}
use Rattle.std.proofs.lemmas.Fn.{always_returns_same}
use Rattle.std.proofs.lemmas.List.MinMax.{ranks_by}
use Rattle.std.proofs.lemmas.List.Sorted.{IsPermutation-map}
use Rattle.spdx_requirement.specs.Items.{Requirement}
use Rattle.spdx_requirement.specs.Orders.{requirement_cmp}
use Rattle.spdx_meaning.specs.Placed.{entry_of, placed_cmp}
use Rattle.spdx_meaning.proofs.Order.{requirements_total}
use Rattle.spdx_meaning.proofs.Numbered.{numbered_total}
use Rattle.spdx_meaning.proofs.places.in_order.Goals as goal

pub returns-clause-placed : goal.returns-clause-placed
returns-clause-placed c =
    let sorted = c.sort_unstable_by.new.self.items in
    subst (λ (ps : List (Requirement × ℕ)). IsPermutation ps (map entry_of sorted)) c.in_ok-ordered.ensures
    (IsPermutation-map entry_of c.in_ok-ordered.ordered.items sorted c.sort_unstable_by.ensures.permutation)

pub returns-clause-up : goal.returns-clause-up
returns-clause-up c =
    c.sort_unstable_by.ensures.sorted (λ p q. is_lt (placed_cmp p q)) (ranks_by (numbered_total requirement_cmp requirements_total) entry_of) (search (rules, always_returns_same))
