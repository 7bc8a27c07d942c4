-- The least sets of ranks, as sets of requirements, are the least sets of the tree.
use Rattle.std.proofs.Common.{◌≡◌, ℕ, Bool, true, false, ◌&&◌, List, [], ◌∷◌, map, refl, sym, ◌∙◌, ap, inl, inr, All}
use Rattle.std.specs.Prelude.{◌==◌}
use Rattle.std.specs.List.{list_any, list_all, AllByRecursion}
use Rattle.std.specs.List.Sorted.{IsStrictlyIncreasing}
use Rattle.std.specs.Ordering.{nat_cmp, is_lt, is_eq}
use Rattle.std.proofs.lemmas.Bool.{eq-eqb}
use Rattle.spdx_requirement.specs.Items.{Requirement}
use Rattle.spdx_requirement.specs.Equality.{same_requirement}
use Rattle.spdx_requirement.specs.Orders.{requirement_cmp}
use Rattle.spdx_parser.specs.Tree.{Tree, leaves}
use Rattle.spdx_evaluation.specs.Truth.{holds}
use Rattle.selections.specs.Sets.{is_in, met_by}
use Rattle.selections.specs.Sets as Sets
use Rattle.selections.specs.Order as Order
use Rattle.selections.proofs.Means.{and_first, and_second, or_left, or_right}
use Rattle.selections.proofs.Ordered.{itself}
use Rattle.spdx_meaning.specs.Meaning.{IsAcceptance}
use Rattle.spdx_meaning.proofs.Meaning.{holds_same}
use Rattle.spdx_meaning.proofs.Least.{Passes, each_passes}
use Rattle.spdx_meaning.specs.Sets.{In, AllLater, is_before, differ, sets_cmp}
use Rattle.spdx_meaning.specs.Ranks.{rank_in}
use Rattle.spdx_meaning.specs.LeastSets.{AreLeastSets}
use Rattle.spdx_meaning.proofs.Later.{mapped_all, mapped_any, mapped_later, mapped_differ, mapped_sets_cmp}
use Rattle.spdx_meaning.proofs.Numbers.{same_number, from_apart, from_ordered, all_from_rising}
use Rattle.spdx_meaning.proofs.Order.{same_is_tied}
use Rattle.spdx_meaning.proofs.RanksIn.{rank_cmp, rank_tied}

-- ---- elements

pub any_in : {X : Type 0} (q : X → Bool) (xs : List X) (x : X) → In xs x → q x ≡ true → list_any q xs ≡ true
any_in q [] x there e = absurd there
any_in q (y ∷ ys) x there e = elim there [
  | inl is ↦ or_left (q y) (list_any q ys) (ap q is ∙ e)
  | inr k ↦ or_right (q y) (list_any q ys) (any_in q ys x k e)
]

pub answers_same : (h g : Requirement → Bool) (qs : List Requirement) → ((r : Requirement) → In qs r → h r ≡ g r) → map h qs ≡ map g qs
answers_same h g [] e = refl
answers_same h g (q ∷ qs) e = ap (λ (b : Bool). b ∷ map h qs) (e q (inl refl)) ∙ ap (λ (z : List Bool). g q ∷ z) (answers_same h g qs (λ r k. e r (inr k)))

pub holds_alike : (h g : Requirement → Bool) (t : Tree) → ((r : Requirement) → In (leaves t) r → h r ≡ g r) → holds h t ≡ holds g t
holds_alike h g t e = holds_same h g t (answers_same h g (leaves t) e)

pub all_fits : {X : Type 0} (P Q : X → Type 0) → ((x : X) → P x → Q x) → (xs : List X) → AllByRecursion P xs → AllByRecursion Q xs
all_fits P Q h [] all = tt
all_fits P Q h (x ∷ xs) all = (h x all.0, all_fits P Q h xs all.1)

pub all_mapped : {X Y : Type 0} (f : X → Y) (P : X → Type 0) (Q : Y → Type 0) → ((x : X) → P x → Q (f x)) → (xs : List X) → AllByRecursion P xs → AllByRecursion Q (map f xs)
all_mapped f P Q h [] all = tt
all_mapped f P Q h (x ∷ xs) all = (h x all.0, all_mapped f P Q h xs all.1)

pub anything : {X : Type 0} (xs : List X) → AllByRecursion (λ (x : X). Unit {0}) xs
anything [] = tt
anything (x ∷ xs) = (tt, anything xs)

pub both_all : {X : Type 0} (P Q : X → Type 0) (xs : List X) → AllByRecursion P xs → AllByRecursion Q xs → AllByRecursion (λ (x : X). P x × Q x) xs
both_all P Q [] a b = tt
both_all P Q (x ∷ xs) a b = ((a.0, b.0), both_all P Q xs a.1 b.1)

-- a test of all of one of some sets, of which each element becomes another one
pub accepts_mapped : {X Y : Type 0} (f : X → Y) (h : Y → Bool) (sets : List (List X)) → list_any (list_all h) (map (map f) sets) ≡ list_any (list_all (λ x. h (f x))) sets
accepts_mapped {X} f h sets =
    mapped_any (λ (s : List X). Unit {0}) (map f) (list_all (λ x. h (f x))) (list_all h)
    (λ s k. mapped_all (λ (x : X). Unit {0}) f (λ x. h (f x)) h (λ x n. refl) s (anything s)) sets (anything sets)

-- ---- the ranks of a tree

module _ (t : Tree) where
  abbrev pub rank : Requirement → ℕ
  rank r = rank_in (leaves t) r

  -- some requirement has the rank
  abbrev pub is_rank : ℕ → Bool
  is_rank k = list_any (λ r. rank r == k) (leaves t)

  abbrev pub IsRank : ℕ → Type 0
  IsRank k = is_rank k ≡ true

  leaf_rank : (r : Requirement) → In (leaves t) r → IsRank (rank r)
  leaf_rank r there = any_in (λ q. rank q == rank r) (leaves t) r there (eq-eqb (rank r) (rank r) refl)

  -- ---- the sets hold ranks alone

  module _ (sets : List (List ℕ)) (means : (p : ℕ → Bool) → holds (λ r. p (rank r)) t ≡ met_by p sets) (apart : Sets.AreApart sets) where
    set_ranks : (s : List ℕ) → In sets s → Passes sets s → AllByRecursion IsRank s
    set_ranks s there passes = split s (passes p (λ k e. and_first (is_in s k) (is_rank k) e) (sym (means p) ∙ holds_alike (λ r. p (rank r)) (λ r. is_in s (rank r)) t alike ∙ means (is_in s) ∙ any_in (list_all (is_in s)) sets s there (itself s)))
      where
        p : ℕ → Bool
        p k = is_in s k && is_rank k

        with_true : (a b : Bool) → b ≡ true → (a && b) ≡ a
        with_true true b e = e
        with_true false b e = refl

        alike : (r : Requirement) → In (leaves t) r → (is_in s (rank r) && is_rank (rank r)) ≡ is_in s (rank r)
        alike r k = with_true (is_in s (rank r)) (is_rank (rank r)) (leaf_rank r k)

        split : (m : List ℕ) → list_all (λ k. is_in s k && is_rank k) m ≡ true → AllByRecursion IsRank m
        split [] e = tt
        split (k ∷ ks) e = (
          and_second (is_in s k) (is_rank k) (and_first (is_in s k && is_rank k) (list_all (λ k. is_in s k && is_rank k) ks) e),
          split ks (and_second (is_in s k && is_rank k) (list_all (λ k. is_in s k && is_rank k) ks) e),
        )

    each_ranks : (ss : List (List ℕ)) → ((s : List ℕ) → In ss s → In sets s) → AllByRecursion (Passes sets) ss → AllByRecursion (AllByRecursion IsRank) ss
    each_ranks [] within all = tt
    each_ranks (s ∷ ss) within all = (set_ranks s (within s (inl refl)) all.0, each_ranks ss (λ m k. within m (inr k)) all.1)

    pub all_ranks : AllByRecursion (AllByRecursion IsRank) sets
    all_ranks = each_ranks sets (λ s k. k) (each_passes sets apart)

-- ---- each rank stands for a requirement that has it

module _ (t : Tree) (at : ℕ → Requirement) (at_in : (k : ℕ) → IsRank t k → In (leaves t) (at k)) (at_rank : (k : ℕ) → IsRank t k → rank t (at k) ≡ k) where
  at_cmp : (a b : ℕ) → IsRank t a → IsRank t b → requirement_cmp (at a) (at b) ≡ nat_cmp a b
  at_cmp a b h k =
      sym (rank_cmp (leaves t) (at a) (at b) (at_in a h) (at_in b k))
      ∙ ap (λ (n : ℕ). nat_cmp n (rank t (at b))) (at_rank a h)
      ∙ ap (λ (n : ℕ). nat_cmp a n) (at_rank b k)

  at_same : (a b : ℕ) → IsRank t a → IsRank t b → same_requirement (at a) (at b) ≡ (a == b)
  at_same a b h k = same_is_tied (at a) (at b) ∙ ap is_eq (at_cmp a b h k) ∙ sym (same_number a b)

  -- the requirement that is found by the rank of another one is the same
  accepted_alike : (h : Requirement → Bool) → IsAcceptance h → (r : Requirement) → In (leaves t) r → h r ≡ h (at (rank t r))
  accepted_alike h ok r there =
      let k = leaf_rank t r there in
      let tied = rank_tied (leaves t) r (at (rank t r)) there (at_in (rank t r) k) (sym (at_rank (rank t r) k)) in
      ok r (at (rank t r)) (same_is_tied r (at (rank t r)) ∙ ap is_eq tied)

  module _ (sets : List (List ℕ)) (means : (p : ℕ → Bool) → holds (λ r. p (rank t r)) t ≡ met_by p sets) (apart : Sets.AreApart sets) where
    ranks : AllByRecursion (AllByRecursion (IsRank t)) sets
    ranks = all_ranks t sets means apart

    pub are_least : All IsStrictlyIncreasing sets → Order.AreInOrder sets → AreLeastSets t (map (map at) sets)
    are_least rise up = record {
      means = λ h ok.
          holds_alike h (λ r. h (at (rank t r))) t (accepted_alike h ok) ∙ means (λ k. h (at k)) ∙ sym (accepts_mapped at h sets);
      apart = mapped_later (AllByRecursion (IsRank t)) (map at) (differ ◌==◌) (differ same_requirement)
          (λ s m h k. mapped_differ (IsRank t) at ◌==◌ same_requirement at_same s m h k) sets ranks (from_apart sets apart);
      rise = all_mapped (map at) (λ (s : List ℕ). AllByRecursion (IsRank t) s × AllLater (is_before nat_cmp) s) (AllLater (is_before requirement_cmp))
          (λ s h. mapped_later (IsRank t) at (is_before nat_cmp) (is_before requirement_cmp) (λ a b i j. ap is_lt (at_cmp a b i j)) s h.0 h.1)
          sets (both_all (AllByRecursion (IsRank t)) (AllLater (is_before nat_cmp)) sets ranks (all_from_rising sets rise));
      ordered = mapped_later (AllByRecursion (IsRank t)) (map at) (is_before (sets_cmp nat_cmp)) (is_before (sets_cmp requirement_cmp))
          (λ s m h k. ap is_lt (mapped_sets_cmp (IsRank t) at nat_cmp requirement_cmp at_cmp s m h k)) sets ranks (from_ordered sets up);
      of_tree = all_mapped (map at) (AllByRecursion (IsRank t)) (AllByRecursion (In (leaves t))) (λ s h. all_mapped at (IsRank t) (In (leaves t)) at_in s h) sets ranks;
    }
