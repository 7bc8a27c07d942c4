-- The text that is written is that of the least sets.
use Rattle.std.proofs.Common.{◌≡◌, ℕ, ◌<◌, Bool, true, List, [], ◌∷◌, ◌++◌, Option, None, length, map, get_or, Ok, refl, sym, ◌∙◌, ap, subst, inl, inr, All}
use Rattle.std.specs.Prelude.{◌==◌, codes}
use Rattle.std.specs.Option.{option_map_or}
use Rattle.std.specs.Global.{Vec}
use Rattle.std.specs.List.{list_any, AllByRecursion}
use Rattle.std.specs.List.Sorted.{IsPermutation, IsStrictlyIncreasing}
use Rattle.std.specs.declared.cmp.Ordering.TheVariants.{Equal}
use Rattle.std.proofs.lemmas.List.Elements.{All-nil, All-cons, All-get_or}
use Rattle.std.proofs.lemmas.List.Sorted.{All-permutation, list_any-IsPermutation}
use Rattle.std.proofs.lemmas.Option.{slice_get-get_or}
use Rattle.spdx_requirement.specs.Items.{Requirement, referred}
use Rattle.spdx_requirement.specs.Orders.{requirement_cmp}
use Rattle.spdx_requirement.specs.Texts.{requirement_text}
use Rattle.spdx_parser.specs.Tree.{Tree, leaves}
use Rattle.spdx_evaluation.specs.Truth.{holds}
use Rattle.selections.specs.Sets.{set_of, sets_in, met_by, AreApart}
use Rattle.selections.specs.Order.{AreInOrder}
use Rattle.spdx_meaning.specs.Made.{made_by}
use Rattle.spdx_meaning.proofs.Meaning.{made_means}
use Rattle.spdx_meaning.specs.Sets.{In}
use Rattle.spdx_meaning.specs.Ranks.{rank_in, name_at}
use Rattle.spdx_meaning.specs.Joined.{joined, more_joined}
use Rattle.spdx_meaning.specs.MeaningText.{IsMeaningText}
use Rattle.spdx_meaning.proofs.Order.{requirements_total}
use Rattle.spdx_meaning.proofs.RanksIn.{rank_same, ranks_same, first_at, found_at}
use Rattle.spdx_meaning.proofs.Ranked.{Rises, at_rank}
use Rattle.spdx_meaning.proofs.LeastText.{IsRank, rank, all_ranks, are_least, anything}

-- ---- texts that are joined

module _ {X Y : Type 0} (In : X → Type 0) (between : List ℕ) (f : X → List ℕ) (g : Y → List ℕ) (to : X → Y) (h : (x : X) → In x → f x ≡ g (to x)) where
  more_alike : (xs : List X) → AllByRecursion In xs → more_joined between f xs ≡ more_joined between g (map to xs)
  more_alike [] all = refl
  more_alike (x ∷ xs) all =
      ap (λ (z : List ℕ). between ++ (z ++ more_joined between f xs)) (h x all.0) ∙ ap (λ (z : List ℕ). between ++ (g (to x) ++ z)) (more_alike xs all.1)

  joined_alike : (xs : List X) → AllByRecursion In xs → joined between f xs ≡ joined between g (map to xs)
  joined_alike [] all = refl
  joined_alike (x ∷ xs) all = ap (λ (z : List ℕ). z ++ more_joined between f xs) (h x all.0) ∙ ap (λ (z : List ℕ). g (to x) ++ z) (more_alike xs all.1)

-- ---- all of it

nothing : Requirement
nothing = record { license = referred (record { document = None; name = [] }); addition = None }

each_in : (xs ys : List Requirement) → ((r : Requirement) → In xs r → In ys r) → All (In ys) xs
each_in [] ys h = All-nil (In ys)
each_in (x ∷ xs) ys h = All-cons (In ys) x xs (h x (inl refl)) (each_in xs ys (λ r k. h r (inr k)))

module _ (t : Tree) (os : List Requirement) (same : IsPermutation (leaves t) os) (up : Rises requirement_cmp requirements_total os) where
  abbrev at : ℕ → Requirement
  at k = get_or os k nothing

  found : (k : ℕ) → IsRank t k → (k < length os) × (rank t (at k) ≡ k)
  found k h =
      let there : list_any (λ r. rank t r == k) os ≡ true = sym (list_any-IsPermutation (λ r. rank t r == k) (leaves t) os same) ∙ h in
      let r = first_at (rank t) nothing os k in
      let is = found_at (rank t) nothing os k there in
      let first = at_rank requirement_cmp requirements_total os up r nothing is.0 in
      let here : rank_in os r ≡ k = ranks_same (leaves t) os same r ∙ is.1 in
      let level : requirement_cmp (at k) r ≡ Equal = subst (λ (n : ℕ). requirement_cmp (get_or os n nothing) r ≡ Equal) here first.1 in
      (subst (λ (n : ℕ). n < length os) here first.0, rank_same (leaves t) (at k) r level ∙ is.1)

  at_in : (k : ℕ) → IsRank t k → In (leaves t) (at k)
  at_in k h = All-get_or (In (leaves t)) os k nothing (found k h).0 (All-permutation (In (leaves t)) (leaves t) os same (each_in (leaves t) (leaves t) (λ r k. k)))

  name_found : (k : ℕ) → IsRank t k → name_at os k ≡ requirement_text (at k)
  name_found k h = ap (λ (z : Option Requirement). option_map_or requirement_text z []) (slice_get-get_or os k nothing (found k h).0)

  set_alike : (s : List ℕ) → AllByRecursion (IsRank t) s → joined (codes " AND ") (name_at os) s ≡ joined (codes " AND ") requirement_text (map at s)
  set_alike s all = joined_alike (IsRank t) (codes " AND ") (name_at os) requirement_text at name_found s all

  pub is_meaning_text : (made : List (List ℕ)) (vs : List (Vec ℕ)) (text : List ℕ) → made_by (rank_in (leaves t)) t ≡ Ok made → ((p : ℕ → Bool) → met_by p (sets_in vs) ≡ met_by p made) → AreApart (sets_in vs) → All IsStrictlyIncreasing (sets_in vs) → AreInOrder (sets_in vs)
      → text ≡ joined (codes " OR ") (λ v. joined (codes " AND ") (name_at os) (set_of v)) vs → IsMeaningText t text
  is_meaning_text made vs text is alike apart rise ordered written =
      let sets = sets_in vs in
      let means : (p : ℕ → Bool) → holds (λ r. p (rank_in (leaves t) r)) t ≡ met_by p sets = λ p. made_means (rank_in (leaves t)) p t made is ∙ sym (alike p) in
      let f = joined (codes " AND ") (name_at os) in
      record {
        sets = map (map at) sets;
        least = are_least t at at_in (λ k h. (found k h).1) sets means apart rise ordered;
        written =
            written
            ∙ joined_alike (λ (v : Vec ℕ). Unit {0}) (codes " OR ") (λ v. f (set_of v)) f set_of (λ v h. refl) vs (anything vs)
            ∙ joined_alike (AllByRecursion (IsRank t)) (codes " OR ") f (joined (codes " AND ") requirement_text) (map at) set_alike sets (all_ranks t sets means apart);
      }
