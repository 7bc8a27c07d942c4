-- Requirements by their numbers.
use Rattle.std.proofs.Common.{◌≡◌, ℕ, zero, suc, ◌+◌, ◌==◌, Bool, true, false, ◌&&◌, ◌||◌, List, [], ◌∷◌, ◌++◌, Some, None, map, refl, sym, ◌∙◌, ap, subst, arith, append_assoc, eqb-true}
use Rattle.std.specs.Prelude.{All, slice_get, unwrap_or}
use Rattle.std.specs.List.{list_all, list_any}
use Rattle.std.proofs.lemmas.List.{map-append}
use Rattle.std.proofs.lemmas.List.Elements.{All-cons, All-nil}
use Rattle.std.proofs.lemmas.Bool.Decides.{nat_tests}
use Rattle.spdx_requirement.specs.Items.{Requirement}
use Rattle.spdx_requirement.specs.Equality.{same_requirement}
use Rattle.spdx_minimize.specs.Places.{places_from}
use Rattle.spdx_why.specs.Missing.{answer_in}
use Rattle.choice_program.specs.Named.{Named, named}
use Rattle.choice_program.specs.Agreed.{is_among}
use Rattle.choice_program.specs.Picked.{kept_if, numbered}

pub or_true : (a b : Bool) → b ≡ true → (a || b) ≡ true
or_true true b e = refl
or_true false b e = e

pub or_first : (a b : Bool) → a ≡ true → (a || b) ≡ true
or_first true b e = refl
or_first false b e = let bad : false ≡ true = e in cc

pub and_parts : (a b : Bool) → (a && b) ≡ true → (a ≡ true) × (b ≡ true)
and_parts true b e = (refl, e)
and_parts false b e = let bad : false ≡ true = e in cc

same_number : (m n : ℕ) → m ≡ n → (m == n) ≡ true
same_number m n e = grind (arith, nat_tests, e)

-- what is chosen is among the numbers of the chosen
pub number_there : (xs : List Bool) (j k : ℕ) → answer_in xs k ≡ true → list_any (λ n. n == j + k) (places_from (λ b. b) j xs) ≡ true
number_there [] j k e = let bad : false ≡ true = e in cc
number_there (true ∷ xs) j zero e =
    ap (λ (b : Bool). b || list_any (λ n. n == j + zero) (places_from (λ b. b) (j + 1) xs)) (same_number j (j + zero) (omega arith))
number_there (false ∷ xs) j zero e = let bad : false ≡ true = e in cc
number_there (true ∷ xs) j (suc k) e =
    let same : j + 1 + k ≡ j + suc k = omega arith in
    or_true (j == j + suc k) (list_any (λ n. n == j + suc k) (places_from (λ b. b) (j + 1) xs))
    (subst (λ (m : ℕ). list_any (λ n. n == m) (places_from (λ b. b) (j + 1) xs) ≡ true) same (number_there xs (j + 1) k e))
number_there (false ∷ xs) j (suc k) e =
    let same : j + 1 + k ≡ j + suc k = omega arith in
    subst (λ (m : ℕ). list_any (λ n. n == m) (places_from (λ b. b) (j + 1) xs) ≡ true) same (number_there xs (j + 1) k e)

-- the answer at a place is that of what stands there
pub at_mapped : (f : Requirement → Bool) (rs : List Requirement) (k : ℕ) (q : Requirement) → slice_get rs k ≡ Some q → answer_in (map f rs) k ≡ f q
at_mapped f [] k q e = let bad : None ≡ Some q = e in cc
at_mapped f (r ∷ rs) zero q e = ap (λ o. f (unwrap_or o r)) e
at_mapped f (r ∷ rs) (suc k) q e = at_mapped f rs k q e

-- what holds of all numbers holds of each
pub of_all : (p : ℕ → Bool) (ns : List ℕ) (k : ℕ) → list_all p ns ≡ true → list_any (λ n. n == k) ns ≡ true → p k ≡ true
of_all p [] k a e = let bad : false ≡ true = e in cc
of_all p (n ∷ ns) k a e =
    let both = and_parts (p n) (list_all p ns) a in
    first_or_later (n == k) (list_any (λ m. m == k) ns) (λ is. let same : n ≡ k = eqb-true n k is in subst (λ m. p m ≡ true) same both.0) (of_all p ns k both.1) e
  where
    first_or_later : (b l : Bool) → (b ≡ true → p k ≡ true) → (l ≡ true → p k ≡ true) → (b || l) ≡ true → p k ≡ true
    first_or_later true l f g e = f refl
    first_or_later false l f g e = g e

shifted : (numbers : List ℕ) (a b : ℕ) → a ≡ b → list_any (λ m. m == a) numbers ≡ true → list_any (λ m. m == b) numbers ≡ true
shifted numbers a b e is = subst (λ (n : ℕ). list_any (λ m. m == n) numbers ≡ true) e is

-- what holds at each number holds of what is chosen
pub all_numbered : (P : Requirement → Type 0) (numbers : List ℕ) (k : ℕ) (rs : List Requirement)
    → ((n : ℕ) → (q : Requirement) → slice_get rs n ≡ Some q → list_any (λ m. m == k + n) numbers ≡ true → P q) → All P (numbered numbers k rs)
all_numbered P numbers k [] h = All-nil P
all_numbered P numbers k (r ∷ rs) h =
    put (list_any (λ m. m == k) numbers) refl (all_numbered P numbers (suc k) rs (λ n q at is. h (suc n) q at (shifted numbers (suc k + n) (k + suc n) (omega arith) is)))
  where
    put : (b : Bool) → list_any (λ m. m == k) numbers ≡ b → All P (numbered numbers (suc k) rs) → All P (kept_if b r ++ numbered numbers (suc k) rs)
    put true e rest = All-cons P r (numbered numbers (suc k) rs) (h 0 r refl (shifted numbers k (k + 0) (omega arith) e)) rest
    put false e rest = rest

-- what stands at one of the numbers is chosen, and so serves each that is the same
pub among_numbered : (numbers : List ℕ) (k : ℕ) (rs : List Requirement) (n : ℕ) (q r : Requirement) → slice_get rs n ≡ Some q → list_any (λ m. m == k + n) numbers ≡ true → same_requirement q r ≡ true
    → is_among (numbered numbers k rs) r ≡ true
among_numbered numbers k [] n q r at is same = let bad : None ≡ Some q = at in cc
among_numbered numbers k (x ∷ xs) zero q r at is same =
    let e : list_any (λ m. m == k) numbers ≡ true = shifted numbers (k + zero) k (omega arith) is in
    let rest = numbered numbers (suc k) xs in
    ap (λ (b : Bool). is_among (kept_if b x ++ rest) r) e
    ∙ or_first (same_requirement x r) (is_among rest r) (ap (λ o. same_requirement (unwrap_or o x) r) at ∙ same)
among_numbered numbers k (x ∷ xs) (suc n) q r at is same =
    let rest = numbered numbers (suc k) xs in
    later (list_any (λ m. m == k) numbers) rest (among_numbered numbers (suc k) xs n q r at (shifted numbers (k + suc n) (suc k + n) (omega arith) is) same)
  where
    later : (b : Bool) (rest : List Requirement) → is_among rest r ≡ true → is_among (kept_if b x ++ rest) r ≡ true
    later true rest h = or_true (same_requirement x r) (is_among rest r) h
    later false rest h = h

-- one requirement more, which is chosen or not
pub numbered_more : (numbers : List ℕ) (k : ℕ) (r : Requirement) (rs : List Requirement) (old new whole : List Named) → new ≡ old ++ map named (kept_if (list_any (λ n. n == k) numbers) r)
    → old ++ map named (numbered numbers k (r ∷ rs)) ≡ whole → new ++ map named (numbered numbers (k + 1) rs) ≡ whole
numbered_more numbers k r rs old new whole e before =
    let kept = kept_if (list_any (λ n. n == k) numbers) r in
    ap (λ (m : ℕ). new ++ map named (numbered numbers m rs)) (let next : k + 1 ≡ suc k = omega arith in next)
    ∙ ap (λ (z : List Named). z ++ map named (numbered numbers (suc k) rs)) e
    ∙ append_assoc old (map named kept) (map named (numbered numbers (suc k) rs))
    ∙ ap (λ (z : List Named). old ++ z) (sym (map-append named kept (numbered numbers (suc k) rs)))
    ∙ before
