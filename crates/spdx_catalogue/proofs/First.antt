-- The first rule that is broken, in parts of the table.
use Rattle.std.proofs.Common.{◌≡◌, ℕ, zero, suc, ◌+◌, ◌<◌, ◌≤◌, ◌⊎◌, inl, inr, Bool, true, false, cond, List, [], ◌∷◌, ◌++◌, Option, Some, None, refl, sym, ◌∙◌, subst, arith, add-one}
use Rattle.spdx_catalogue.specs.RowRules.{RowRule}
use Rattle.spdx_catalogue.specs.RowChecks.{first_broken, all_below}
use Rattle.spdx_catalogue.specs.declared.error.CatalogueError.{CatalogueError}

pub first_some : (xs ys : List RowRule) (e : CatalogueError) → first_broken xs ≡ Some e → first_broken (xs ++ ys) ≡ Some e
first_some [] ys e h = absurd cc
first_some (x ∷ xs) ys e h = pick x.0 (first_some xs ys e) h
  where
    pick : (b : Bool) → (first_broken xs ≡ Some e → first_broken (xs ++ ys) ≡ Some e) → cond b (Some x.1) (first_broken xs) ≡ Some e → cond b (Some x.1) (first_broken (xs ++ ys)) ≡ Some e
    pick true rest g = g
    pick false rest g = rest g

pub first_none : (xs ys : List RowRule) → first_broken xs ≡ None → first_broken (xs ++ ys) ≡ first_broken ys
first_none [] ys h = refl
first_none (x ∷ xs) ys h = pick x.0 (first_none xs ys) h
  where
    pick : (b : Bool) → (first_broken xs ≡ None → first_broken (xs ++ ys) ≡ first_broken ys) → cond b (Some x.1) (first_broken xs) ≡ None → cond b (Some x.1) (first_broken (xs ++ ys)) ≡ first_broken ys
    pick true rest g = absurd cc
    pick false rest g = rest g

-- nothing broken in the whole, so nothing in the parts
pub none_front : (xs ys : List RowRule) → first_broken (xs ++ ys) ≡ None → first_broken xs ≡ None
none_front [] ys h = refl
none_front (x ∷ xs) ys h = pick x.0 (none_front xs ys) h
  where
    pick : (b : Bool) → (first_broken (xs ++ ys) ≡ None → first_broken xs ≡ None) → cond b (Some x.1) (first_broken (xs ++ ys)) ≡ None → cond b (Some x.1) (first_broken xs) ≡ None
    pick true rest g = g
    pick false rest g = rest g

pub none_back : (xs ys : List RowRule) → first_broken (xs ++ ys) ≡ None → first_broken ys ≡ None
none_back xs ys h = sym (first_none xs ys (none_front xs ys h)) ∙ h

pub below_each : (f : ℕ → List RowRule) (n i : ℕ) → i < n → first_broken (all_below f n) ≡ None → first_broken (f i) ≡ None
below_each f zero i lt h = absurd (omega arith)
below_each f (suc n) i lt h = split (reached i n lt) (λ l. below_each f n i l (none_front (all_below f n) (f n) h))
  where
    reached : (i n : ℕ) → i < suc n → (i < n) ⊎ (i ≡ n)
    reached i n lt = grind arith

    split : (i < n) ⊎ (i ≡ n) → (i < n → first_broken (f i) ≡ None) → first_broken (f i) ≡ None
    split (inl l) rest = rest l
    split (inr s) rest = subst (λ k. first_broken (f k) ≡ None) (sym s) (none_back (all_below f n) (f n) h)

-- one more number, with nothing broken so far
pub below_next : (f : ℕ → List RowRule) (i : ℕ) (o : Option CatalogueError) → first_broken (all_below f i) ≡ None → o ≡ first_broken (f i) → first_broken (all_below f (i + 1)) ≡ o
below_next f i o none here = rw add-one (first_none (all_below f i) (f i) none ∙ sym here)

pub below_more : (f : ℕ → List RowRule) (m n : ℕ) (e : CatalogueError) → m ≤ n → first_broken (all_below f m) ≡ Some e → first_broken (all_below f n) ≡ Some e
below_more f m zero e le h = let z : m ≡ zero = omega arith in subst (λ k. first_broken (all_below f k) ≡ Some e) z h
below_more f m (suc n) e le h = split (reached m n le) (λ l. first_some (all_below f n) (f n) e (below_more f m n e l h))
  where
    reached : (m n : ℕ) → m ≤ suc n → (m ≤ n) ⊎ (m ≡ suc n)
    reached m n le = grind arith

    split : (m ≤ n) ⊎ (m ≡ suc n) → (m ≤ n → first_broken (all_below f (suc n)) ≡ Some e) → first_broken (all_below f (suc n)) ≡ Some e
    split (inl l) rest = rest l
    split (inr s) rest = subst (λ k. first_broken (all_below f k) ≡ Some e) s h
