-- Over one catalogue, equivalent trees have the same least sets.
use Rattle.std.proofs.Common.{◌≡◌, ℕ, Bool, List, [], ◌∷◌, ◌++◌, Option, Some, None, map, refl, sym, ◌∙◌, ap, All}
use Rattle.std.specs.Prelude.{◌==◌, option_map, slice_get}
use Rattle.std.specs.List.{AllByRecursion}
use Rattle.std.specs.List.Sorted.{IsStrictlyIncreasing}
use Rattle.std.specs.Ordering.{nat_cmp, is_lt, is_eq}
use Rattle.spdx_requirement.specs.Rows.{Rows}
use Rattle.spdx_requirement.specs.Items.{LicenseTerm, listed, referred, Addition, excepted, added, Requirement}
use Rattle.spdx_requirement.specs.Keys.{RequirementKey, license_key, addition_key, requirement_key}
use Rattle.spdx_requirement.specs.Equality.{same_requirement}
use Rattle.spdx_requirement.specs.Orders.{requirement_cmp}
use Rattle.spdx_parser.specs.Tree.{Tree, leaves}
use Rattle.spdx_parser.specs.Meaning.{IsLicenseOf, IsAdditionOf}
use Rattle.spdx_evaluation.specs.Truth.{holds}
use Rattle.selections.specs.Sets.{met_by}
use Rattle.selections.specs.Sets as Sets
use Rattle.selections.specs.Order as Order
use Rattle.selections.proofs.Unique.{only_one}
use Rattle.spdx_meaning.specs.Meaning.{IsEquivalent}
use Rattle.spdx_meaning.specs.Sets.{In, AllLater, is_before, differ, sets_cmp}
use Rattle.spdx_meaning.specs.Ranks.{rank_in}
use Rattle.spdx_meaning.specs.LeastSets.{AreLeastSets}
use Rattle.spdx_meaning.proofs.Order.{tied_key, same_is_tied, tied_of_same}
use Rattle.spdx_meaning.proofs.Later.{mapped_later, mapped_differ, mapped_sets_cmp}
use Rattle.spdx_meaning.proofs.Numbers.{same_number, to_apart, to_ordered, all_to_rising}
use Rattle.spdx_meaning.proofs.RanksIn.{in_first, in_second, rank_cmp, rank_same, rank_tied}
use Rattle.spdx_meaning.proofs.LeastText.{all_fits, all_mapped, both_all, accepts_mapped}

-- ---- over one catalogue a row is told by its index

abbrev pub IsRequirementOf : Rows → Requirement → Type 0
IsRequirementOf c r = IsLicenseOf c r.license × IsAdditionOf c r.addition

license_told : (c : Rows) (x y : LicenseTerm) → IsLicenseOf c x → IsLicenseOf c y → license_key x ≡ license_key y → x ≡ y
license_told c (listed r m) (listed s n) h k e =
    let index : r.index ≡ s.index = cc in
    let mark : m ≡ n = cc in
    let found : Some r ≡ Some s = sym h ∙ ap (λ (i : ℕ). slice_get c.licenses i) index ∙ k in
    let row : r ≡ s = cc in
    cc
license_told c (referred x) (referred y) h k e = cc
license_told c (listed r m) (referred y) h k e = cc
license_told c (referred x) (listed s n) h k e = cc

addition_told : (c : Rows) (x y : Option Addition) → IsAdditionOf c x → IsAdditionOf c y → option_map addition_key x ≡ option_map addition_key y → x ≡ y
addition_told c None None h k e = refl
addition_told c None (Some y) h k e = cc
addition_told c (Some x) None h k e = cc
addition_told c (Some (excepted r)) (Some (excepted s)) h k e =
    let index : r.index ≡ s.index = cc in
    let found : Some r ≡ Some s = sym h ∙ ap (λ (i : ℕ). slice_get c.exceptions i) index ∙ k in
    let row : r ≡ s = cc in
    cc
addition_told c (Some (added x)) (Some (added y)) h k e = cc
addition_told c (Some (excepted r)) (Some (added y)) h k e = cc
addition_told c (Some (added x)) (Some (excepted s)) h k e = cc

abbrev of_parts : LicenseTerm → Option Addition → Requirement
of_parts l a = record { license = l; addition = a }

requirement_told : (c : Rows) (r s : Requirement) → IsRequirementOf c r → IsRequirementOf c s → requirement_key r ≡ requirement_key s → r ≡ s
requirement_told c r s h k e =
    let license : r.license ≡ s.license = license_told c r.license s.license h.0 k.0 (ap (λ (z : RequirementKey). z.license) e) in
    let addition : r.addition ≡ s.addition = addition_told c r.addition s.addition h.1 k.1 (ap (λ (z : RequirementKey). z.addition) e) in
    ap (λ (l : LicenseTerm). of_parts l r.addition) license ∙ ap (λ (a : Option Addition). of_parts s.license a) addition

-- ---- by ranks among some requirements

module _ (ps : List Requirement) where
  abbrev rank : Requirement → ℕ
  rank r = rank_in ps r

  rank_same_as : (r s : Requirement) → In ps r → In ps s → (rank r == rank s) ≡ same_requirement r s
  rank_same_as r s h k = same_number (rank r) (rank s) ∙ ap is_eq (rank_cmp ps r s h k) ∙ sym (same_is_tied r s)

  module _ (sets : List (List Requirement)) (within : AllByRecursion (AllByRecursion (In ps)) sets) where
    ranks_apart : AllLater (differ same_requirement) sets → Sets.AreApart (map (map rank) sets)
    ranks_apart apart = to_apart (map (map rank) sets) (mapped_later (AllByRecursion (In ps)) (map rank) (differ same_requirement) (differ ◌==◌)
        (λ s m h k. mapped_differ (In ps) rank same_requirement ◌==◌ rank_same_as s m h k) sets within apart)

    ranks_rise : AllByRecursion (AllLater (is_before requirement_cmp)) sets → All IsStrictlyIncreasing (map (map rank) sets)
    ranks_rise rise = all_to_rising (map (map rank) sets) (all_mapped (map rank) (λ (s : List Requirement). AllByRecursion (In ps) s × AllLater (is_before requirement_cmp) s) (AllLater (is_before nat_cmp))
        (λ s h. mapped_later (In ps) rank (is_before requirement_cmp) (is_before nat_cmp) (λ a b i j. ap is_lt (rank_cmp ps a b i j)) s h.0 h.1)
        sets (both_all (AllByRecursion (In ps)) (AllLater (is_before requirement_cmp)) sets within rise))

    ranks_ordered : AllLater (is_before (sets_cmp requirement_cmp)) sets → Order.AreInOrder (map (map rank) sets)
    ranks_ordered up = to_ordered (map (map rank) sets) (mapped_later (AllByRecursion (In ps)) (map rank) (is_before (sets_cmp requirement_cmp)) (is_before (sets_cmp nat_cmp))
        (λ s m h k. ap is_lt (mapped_sets_cmp (In ps) rank requirement_cmp nat_cmp (rank_cmp ps) s m h k)) sets within up)

  ranks_mean : (t : Tree) (sets : List (List Requirement)) → AreLeastSets t sets → (p : ℕ → Bool) → met_by p (map (map rank) sets) ≡ holds (λ r. p (rank r)) t
  ranks_mean t sets least p =
      accepts_mapped rank p sets ∙ sym (least.means (λ r. p (rank r)) (λ r s same. ap p (rank_same ps r s (tied_of_same r s same))))

  -- sets with the same ranks are the same
  module _ (c : Rows) where
    abbrev Known : Requirement → Type 0
    Known r = In ps r × IsRequirementOf c r

    same_set : (s m : List Requirement) → AllByRecursion Known s → AllByRecursion Known m → map rank s ≡ map rank m → s ≡ m
    same_set [] [] h k e = refl
    same_set [] (y ∷ ys) h k e = cc
    same_set (x ∷ xs) [] h k e = cc
    same_set (x ∷ xs) (y ∷ ys) h k e =
        let first : rank x ≡ rank y = cc in
        let more : map rank xs ≡ map rank ys = cc in
        let head : x ≡ y = requirement_told c x y h.0.1 k.0.1 (tied_key x y (rank_tied ps x y h.0.0 k.0.0 first)) in
        let rest : xs ≡ ys = same_set xs ys h.1 k.1 more in
        cc

    same_sets : (ss ms : List (List Requirement)) → AllByRecursion (AllByRecursion Known) ss → AllByRecursion (AllByRecursion Known) ms → map (map rank) ss ≡ map (map rank) ms → ss ≡ ms
    same_sets [] [] h k e = refl
    same_sets [] (m ∷ ms) h k e = cc
    same_sets (s ∷ ss) [] h k e = cc
    same_sets (s ∷ ss) (m ∷ ms) h k e =
        let first : map rank s ≡ map rank m = cc in
        let more : map (map rank) ss ≡ map (map rank) ms = cc in
        let head : s ≡ m = same_set s m h.0 k.0 first in
        let rest : ss ≡ ms = same_sets ss ms h.1 k.1 more in
        cc

module _ (c : Rows) (t u : Tree) (of_t : (r : Requirement) → In (leaves t) r → IsRequirementOf c r) (of_u : (r : Requirement) → In (leaves u) r → IsRequirementOf c r) where
  abbrev both : List Requirement
  both = leaves t ++ leaves u

  pub the_same : (sets others : List (List Requirement)) → AreLeastSets t sets → AreLeastSets u others → IsEquivalent t u → sets ≡ others
  the_same sets others least other same =
      let in_t : AllByRecursion (AllByRecursion (In both)) sets = all_fits (AllByRecursion (In (leaves t))) (AllByRecursion (In both)) (λ s h. all_fits (In (leaves t)) (In both) (λ r k. in_first (leaves t) (leaves u) r k) s h) sets least.of_tree in
      let in_u : AllByRecursion (AllByRecursion (In both)) others = all_fits (AllByRecursion (In (leaves u))) (AllByRecursion (In both)) (λ s h. all_fits (In (leaves u)) (In both) (λ r k. in_second (leaves t) (leaves u) r k) s h) others other.of_tree in
      let known_t : AllByRecursion (AllByRecursion (Known both c)) sets = all_fits (AllByRecursion (In (leaves t))) (AllByRecursion (Known both c)) (λ s h. all_fits (In (leaves t)) (Known both c) (λ r k. (in_first (leaves t) (leaves u) r k, of_t r k)) s h) sets least.of_tree in
      let known_u : AllByRecursion (AllByRecursion (Known both c)) others = all_fits (AllByRecursion (In (leaves u))) (AllByRecursion (Known both c)) (λ s h. all_fits (In (leaves u)) (Known both c) (λ r k. (in_second (leaves t) (leaves u) r k, of_u r k)) s h) others other.of_tree in
      same_sets both c sets others known_t known_u
      (only_one (map (map (rank both)) sets) (map (map (rank both)) others)
      (λ p. ranks_mean both t sets least p ∙ same (λ r. p (rank both r)) (λ r s h. ap p (rank_same both r s (tied_of_same r s h))) ∙ sym (ranks_mean both u others other p))
      (ranks_apart both sets in_t least.apart) (ranks_apart both others in_u other.apart)
      (ranks_rise both sets in_t least.rise) (ranks_rise both others in_u other.rise)
      (ranks_ordered both sets in_t least.ordered) (ranks_ordered both others in_u other.ordered))
