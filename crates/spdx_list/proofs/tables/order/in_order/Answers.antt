use Rattle.std.proofs.Common.{rules, map}
use Rattle.std.specs.Ordering.{nat_cmp, is_lt}
use Rattle.std.specs.Cmp.Lexicographic.{slice_cmp}
use Rattle.std.proofs.lemmas.Cmp.{nat_list_cmp_total}
use Rattle.std.proofs.lemmas.Fn.{always_returns_same}
use Rattle.std.proofs.lemmas.List.Sorted.{IsPermutation-map, ranks_by}
use Rattle.std.proofs.lemmas.Result.{IfOk-weaker}
use Rattle.spdx_list.proofs.Ordered.{sorted_shown}
use Rattle.spdx_list.proofs.tables.order.in_order.Goals as goal

pub returns : goal.returns
returns g c =
    let shown = g.R.Placed.shown in
    let key = λ (r : g.R.Placed.Shown). g.R.Placed.name_of r in
    let rows = c.args.rows.items in
    let sorted = c.sort_unstable_by.new.self.items in
    let below = λ (x y : g.R.Placed.Shown). is_lt (slice_cmp nat_cmp (key x) (key y)) in
    let up = c.sort_unstable_by.ensures.sorted (λ x y. below (shown x) (shown y)) (ranks_by nat_list_cmp_total (λ x. key (shown x))) (search (rules, always_returns_same)) in
    IfOk-weaker c.numbered.result _ _ (λ placed is. record {
      ordered = map shown sorted;
      same = IsPermutation-map shown rows sorted c.sort_unstable_by.ensures.permutation;
      ascends = sorted_shown shown below sorted up;
      places = is;
    }) c.numbered.ensures
