-- The choice for one requirement is the first useful licensee.
use Rattle.std.proofs.Common.{◌≡◌, ℕ, zero, suc, ◌≤◌, Bool, true, false, ◌||◌, ◌&&◌, cond, List, [], ◌∷◌, ◌++◌, length, take, replicate, Some, refl, sym, ◌∙◌, ap, arith}
use Rattle.std.specs.List.{list_any, filter, find}
use Rattle.spdx_requirement.specs.Items.{Requirement}
use Rattle.spdx_requirement.specs.Equality.{same_requirement}
use Rattle.spdx_parser.specs.Tree.{Tree, Leaf}
use Rattle.spdx_licensee.specs.Satisfies.{satisfies}
use Rattle.selections.specs.Selection.{IsLeast}
use Rattle.selections.proofs.Only.{needs_each}
use Rattle.spdx_minimize.specs.Choice.{first_ones, satisfies_some, useful, any_chosen, suffices_for, without_and_with, selections, least_of, chosen_of, chosen, choice_among, IsLeastChoice}
use Rattle.spdx_minimize.proofs.Chosen.{choice_least}
use Rattle.spdx_minimize.proofs.Selections.{least_of-IsLeast}

-- ---- the least selection where the first member alone suffices

-- the first selection chooses nobody
heads : (n : ℕ) → (rest : List (List Bool)) × (selections n ≡ replicate n false ∷ rest)
heads zero = ([], refl)
heads (suc n) = let h = heads n in ((true ∷ replicate n false) ∷ without_and_with h.0, ap without_and_with h.1)

first_found : (suffices : List Bool → Bool) (n : ℕ) → suffices (false ∷ replicate n false) ≡ false → suffices (true ∷ replicate n false) ≡ true → least_of suffices (suc n) ≡ Some (true ∷ replicate n false)
first_found suffices n e f = let h = heads n in ap (λ (z : List (List Bool)). find suffices (without_and_with z)) h.1 ∙ rw (e, f) refl

nobody_chosen : (ms : List Requirement) (n : ℕ) (r : Requirement) → any_chosen ms (replicate n false) r ≡ false
nobody_chosen [] n r = refl
nobody_chosen (m ∷ ms) zero r = refl
nobody_chosen (m ∷ ms) (suc n) r = nobody_chosen ms n r

none_of : (ms : List Requirement) (n : ℕ) → chosen_of ms (replicate n false) ≡ []
none_of [] n = refl
none_of (m ∷ ms) zero = refl
none_of (m ∷ ms) (suc n) = none_of ms n

with_true : (b : Bool) → (b && true) ≡ b
with_true true = refl
with_true false = refl

-- some members suffice for one requirement if one that is chosen satisfies it
one_suffices : (r : Requirement) (ms : List Requirement) (s : List Bool) → suffices_for (Leaf r ∷ []) ms s ≡ any_chosen ms s r
one_suffices r ms s = with_true (any_chosen ms s r)

-- a licensee that satisfies the one requirement is useful, and no other
pub alone : (r l : Requirement) → satisfies_some (Leaf r ∷ []) l ≡ satisfies l r
alone r l = elim (satisfies l r) as (λ (b : Bool). ((b || false) || false) ≡ b) [ true ↦ refl | false ↦ refl ]

-- ---- the choice

first_least : (r m : Requirement) (ms : List Requirement) → satisfies m r ≡ true → IsLeast (suffices_for (Leaf r ∷ []) (m ∷ ms)) (suc (length ms)) (true ∷ replicate (length ms) false)
first_least r m ms e =
    let n = length ms in
    let suffices = suffices_for (Leaf r ∷ []) (m ∷ ms) in
    let without : suffices (false ∷ replicate n false) ≡ false = one_suffices r (m ∷ ms) (false ∷ replicate n false) ∙ nobody_chosen ms n r in
    let with_it : suffices (true ∷ replicate n false) ≡ true = one_suffices r (m ∷ ms) (true ∷ replicate n false) ∙ ap (λ (b : Bool). b || any_chosen ms (replicate n false) r) e in
    least_of-IsLeast suffices (suc n) (true ∷ replicate n false) (first_found suffices n without with_it)

first_of : (m : Requirement) (ms : List Requirement) → chosen_of (m ∷ ms) (true ∷ replicate (length ms) false) ≡ m ∷ []
first_of m ms = ap (λ (z : List Requirement). m ∷ z) (none_of ms (length ms))

pub choice_one : (r m : Requirement) (ms : List Requirement) → length ms ≤ 1024 → take 1 ms ≡ m ∷ [] → satisfies m r ≡ true → choice_among (Leaf r ∷ []) ms ≡ chosen (m ∷ [])
choice_one r m [] few first e = cc
choice_one r m (x ∷ ms) few first e =
    let same : x ≡ m = cc in
    let there : satisfies x r ≡ true = ap (λ (z : Requirement). satisfies z r) same ∙ e in
    choice_least (Leaf r ∷ []) (x ∷ ms) (true ∷ replicate (length ms) false) few (first_least r x ms there) ∙ ap chosen (first_of x ms ∙ ap (λ (z : Requirement). z ∷ []) same)

pub one_is_least : (r m : Requirement) (ms : List Requirement) → take 1 ms ≡ m ∷ [] → satisfies m r ≡ true → IsLeastChoice (Leaf r ∷ []) ms (m ∷ [])
one_is_least r m [] first e = cc
one_is_least r m (x ∷ ms) first e =
    let same : x ≡ m = cc in
    let there : satisfies x r ≡ true = ap (λ (z : Requirement). satisfies z r) same ∙ e in
    let least = first_least r x ms there in
    record {
      selection = true ∷ replicate (length ms) false;
      least = least;
      needed = needs_each _ _ _ least;
      requirements = sym (first_of x ms ∙ ap (λ (z : Requirement). z ∷ []) same);
    }

-- ---- no more licensees are useful than there are

kept_few : (keeps : Requirement → Bool) (rs : List Requirement) → length (filter keeps rs) ≤ length rs
kept_few keeps [] = omega arith
kept_few keeps (r ∷ rs) = let few = kept_few keeps rs in elim (keeps r) as (λ (b : Bool). length (cond b (r ∷ filter keeps rs) (filter keeps rs)) ≤ suc (length rs)) [ true ↦ omega (arith, few) | false ↦ omega (arith, few) ]

firsts_few : (before rs : List Requirement) → length (first_ones before rs) ≤ length rs
firsts_few before [] = omega arith
firsts_few before (r ∷ rs) =
    let few = firsts_few (before ++ r ∷ []) rs in
    elim (list_any (λ b. same_requirement b r) before) as (λ (b : Bool). length (cond b [] (r ∷ []) ++ first_ones (before ++ r ∷ []) rs) ≤ suc (length rs)) [ true ↦ omega (arith, few) | false ↦ omega (arith, few) ]

pub useful_few : (trees : List Tree) (ls : List Requirement) → length ls ≤ 1024 → length (useful trees ls) ≤ 1024
useful_few trees ls h = omega (arith, h, kept_few (satisfies_some trees) (first_ones [] ls), firsts_few [] ls)
