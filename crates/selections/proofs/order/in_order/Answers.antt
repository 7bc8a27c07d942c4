use Rattle.std.proofs.Common.{rules, ◌≡◌, ℕ, sym, ◌∙◌, ap, subst, List, [], ◌∷◌, ◌++◌}
use Rattle.std.specs.Global.{Vec}
use Rattle.std.specs.Prelude.{All}
use Rattle.std.specs.List.{list_all}
use Rattle.std.specs.List.Sorted.{IsSortedBy, IsStrictlyIncreasing}
use Rattle.std.proofs.lemmas.Cmp.{nat_list_cmp_total}
use Rattle.std.proofs.lemmas.Fn.{always_returns_same}
use Rattle.std.proofs.lemmas.Iterator.Adapters.{YieldsList-from_vec}
use Rattle.std.proofs.lemmas.Iterator.Consumers.{YieldsList-end}
use Rattle.std.proofs.lemmas.List.{map-append, map-id}
use Rattle.std.proofs.lemmas.List.Elements.{All-push}
use Rattle.std.proofs.lemmas.List.Sorted.{IsPermutation-map, list_any-IsPermutation, ranks_by, All-permutation}
use Rattle.selections.specs.Sets.{set_of, sets_in}
use Rattle.selections.specs.Order.{below}
use Rattle.selections.proofs.Lists.{sorted-map}
use Rattle.selections.proofs.Ordered.{AreSame, one_more_same, same_met, same_apart, moved_apart, sized, strictly}
use Rattle.selections.proofs.order.in_order.Goals as goal

pub loop-set-preserved : goal.loop-set-preserved
loop-set-preserved c =
    let ordered = c.loop-set.ordered.items in
    let seen = c.loop-set.yielded in
    let set = c.in-Some.set in
    let new : sets_in c.push.new.self.items ≡ sets_in ordered ++ set_of c.ascending.result ∷ [] = ap sets_in c.in_ok-push.ensures.items ∙ map-append set_of ordered (c.ascending.result ∷ []) in
    let old : sets_in (seen ++ set ∷ []) ≡ sets_in seen ++ set_of set ∷ [] = map-append set_of seen (set ∷ []) in
    record {
      same =
          subst (λ (z : List (List ℕ)). AreSame z (sets_in (seen ++ set ∷ []))) (sym new)
          (subst (λ (z : List (List ℕ)). AreSame (sets_in ordered ++ set_of c.ascending.result ∷ []) z) (sym old)
          (one_more_same (sets_in ordered) (sets_in seen) (set_of c.ascending.result) (set_of set) c.loop-set.invariant.same c.ascending.ensures.same));
      rise = subst (λ (z : List (List ℕ)). All IsStrictlyIncreasing z) (sym new) (All-push IsStrictlyIncreasing (sets_in ordered) (set_of c.ascending.result) c.loop-set.invariant.rise c.ascending.ensures.rises);
    }

pub returns-clause-means : goal.returns-clause-means
returns-clause-means c p =
    let ordered = c.loop-set.ordered.items in
    let sorted = c.sort_unstable_by.new.self.items in
    let t = YieldsList-end (YieldsList-from_vec {s = c.into_iter-set-iterator.result} c.args.sets.items (search rules) (search rules)) c.loop-set.yielded c.loop-set.set-iterator c.loop-set.yielded_by c.next.result c.next.new.self c.in-None.is c.next.ensures.steps in
    let all : c.loop-set.yielded ≡ c.args.sets.items = sym (map-id c.loop-set.yielded) ∙ t.0 in
    let same : AreSame (sets_in ordered) (sets_in c.args.sets.items) = subst (λ (z : List (Vec ℕ)). AreSame (sets_in ordered) (sets_in z)) all c.loop-set.invariant.same in
    sym (list_any-IsPermutation (list_all p) (sets_in ordered) (sets_in sorted) (IsPermutation-map set_of ordered sorted c.sort_unstable_by.ensures.permutation))
    ∙ same_met p (sets_in ordered) (sets_in c.args.sets.items) same

pub returns-clause-apart : goal.returns-clause-apart
returns-clause-apart c apart =
    let ordered = c.loop-set.ordered.items in
    let sorted = c.sort_unstable_by.new.self.items in
    let t = YieldsList-end (YieldsList-from_vec {s = c.into_iter-set-iterator.result} c.args.sets.items (search rules) (search rules)) c.loop-set.yielded c.loop-set.set-iterator c.loop-set.yielded_by c.next.result c.next.new.self c.in-None.is c.next.ensures.steps in
    let all : c.loop-set.yielded ≡ c.args.sets.items = sym (map-id c.loop-set.yielded) ∙ t.0 in
    let same : AreSame (sets_in ordered) (sets_in c.args.sets.items) = subst (λ (z : List (Vec ℕ)). AreSame (sets_in ordered) (sets_in z)) all c.loop-set.invariant.same in
    moved_apart (sets_in ordered) (sets_in sorted) (IsPermutation-map set_of ordered sorted c.sort_unstable_by.ensures.permutation) (same_apart (sets_in ordered) (sets_in c.args.sets.items) same apart)

pub returns-clause-rise : goal.returns-clause-rise
returns-clause-rise c =
    let ordered = c.loop-set.ordered.items in
    let sorted = c.sort_unstable_by.new.self.items in
    All-permutation IsStrictlyIncreasing (sets_in ordered) (sets_in sorted) (IsPermutation-map set_of ordered sorted c.sort_unstable_by.ensures.permutation) c.loop-set.invariant.rise

pub returns-clause-ordered : goal.returns-clause-ordered
returns-clause-ordered c apart =
    let sorted = c.sort_unstable_by.new.self.items in
    let up : IsSortedBy (λ x y. below (set_of x) (set_of y)) sorted = c.sort_unstable_by.ensures.sorted (λ x y. below (set_of x) (set_of y)) (ranks_by nat_list_cmp_total (λ v. sized (set_of v))) (search (rules, always_returns_same)) in
    strictly (sets_in sorted) (sorted-map set_of below sorted up) (returns-clause-apart c apart)
