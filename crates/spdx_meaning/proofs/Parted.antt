-- The first of some that are sorted stand before one, and the others don't.
use Rattle.std.proofs.Common.{◌≡◌, true, false, List, refl, sym, ◌∙◌, ap}
use Rattle.std.specs.Prelude.{slice_index_or}
use Rattle.std.specs.Ordering.{is_lt, ordering_reverse}
use Rattle.std.specs.declared.cmp.Ordering.{Ordering}
use Rattle.std.specs.declared.cmp.Ordering.TheVariants.{Less, Equal, Greater}
use Rattle.std.specs.Cmp.{IsTotalOrder}
use Rattle.std.specs.List.Sorted.{IsSortedBy, IsPartitionedBy}
use Rattle.std.proofs.lemmas.List.MinMax.{ranks_by}
use Rattle.std.proofs.lemmas.List.Sorted.{sorted_far}

pub parted : {X K : Type 0} (cmp : K → K → Ordering) (o : IsTotalOrder cmp) (f : X → K) (xs : List X) (r : K) → IsSortedBy (λ x y. is_lt (cmp (f x) (f y))) xs → IsPartitionedBy (λ y. is_lt (cmp (f y) r)) xs
parted {K = K} cmp o f xs r up i j d l m before = cases (cmp a b) refl
  where
    a : K
    a = f (slice_index_or xs i d)

    b : K
    b = f (slice_index_or xs j d)

    is : (w : Ordering) → is_lt w ≡ true → w ≡ Less
    is Less e = refl
    is Equal e = let bad : false ≡ true = e in cc
    is Greater e = let bad : false ≡ true = e in cc

    cases : (w : Ordering) → cmp a b ≡ w → is_lt (cmp a r) ≡ true
    cases Less e = ap is_lt (o.trans a b r e (is (cmp b r) before))
    cases Equal e = ap is_lt (o.congr a b r e) ∙ before
    cases Greater e =
        let back : is_lt (cmp b a) ≡ true = ap is_lt (o.antisymm b a ∙ ap ordering_reverse e) in
        let bad : false ≡ true = sym (sorted_far (λ x y. is_lt (cmp (f x) (f y))) (ranks_by o f) xs up i j d l m) ∙ back in
        cc
