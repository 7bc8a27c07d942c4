use Rattle.std.proofs.Common.{rules, map, ap, ◌∙◌}
use Rattle.std.specs.List.Sorted.{IsSortedBy}
use Rattle.std.specs.Ordering.{is_lt}
use Rattle.std.proofs.lemmas.Fn.{always_returns_same}
use Rattle.std.proofs.lemmas.List.Sorted.{IsPermutation-map, ranks_by}
use Rattle.package_changes.specs.declared.package.Change.{Change}
use Rattle.package_changes.specs.Rows.{change_row}
use Rattle.package_changes.specs.Order.{change_cmp, in_order}
use Rattle.package_changes.specs.Pairing.{told}
use Rattle.package_changes.proofs.Orders.{change_total, change_same}
use Rattle.package_changes.proofs.Sorting.{from_sorted, order_unique}
use Rattle.package_changes.proofs.Laws.{are_changes}
use Rattle.package_changes.proofs.changes.changes_between.Goals as goal

pub returns-clause-exact : goal.returns-clause-exact
returns-clause-exact c =
    let sorted = c.sort_unstable_by.new.self.items in
    let up : IsSortedBy (λ (x : Change) (y : Change). is_lt (change_cmp (change_row x) (change_row y))) sorted = c.sort_unstable_by.ensures.sorted (λ x y. is_lt (change_cmp (change_row x) (change_row y))) (ranks_by change_total change_row) (search (rules, always_returns_same)) in
    order_unique change_cmp change_total change_same (map change_row c.in_ok-found.found.items) (map change_row sorted) (IsPermutation-map change_row _ sorted c.sort_unstable_by.ensures.permutation) (from_sorted change_cmp change_total change_row sorted up)
    ∙ ap (in_order change_cmp) (c.in_ok-found.ensures ∙ ap told c.in_ok-pairing.ensures)

pub returns-in_err-pairing-clause-laws : goal.returns-in_err-pairing-clause-laws
returns-in_err-pairing-clause-laws c = are_changes _ _

pub returns-in_err-found-clause-laws : goal.returns-in_err-found-clause-laws
returns-in_err-found-clause-laws c = are_changes _ _

pub returns-clause-laws : goal.returns-clause-laws
returns-clause-laws c = are_changes _ _
