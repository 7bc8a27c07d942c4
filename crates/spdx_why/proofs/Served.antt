-- Answers where candidates serve requirements, and what the least choice among them is.
use Rattle.std.proofs.Common.{◌≡◌, ℕ, zero, suc, ◌+◌, ◌<◌, ◌≤◌, ◌==◌, Bool, true, false, ◌||◌, cond, List, [], ◌∷◌, Vec, length, map, nat_lt, refl, sym, ◌∙◌, ap, subst, arith, get_or, eqb-true}
use Rattle.std.proofs.Math.Path.{fun_ext}
use Rattle.std.specs.List.{All, list_any}
use Rattle.std.specs.declared.alloc.Global.{Global}
use Rattle.std.proofs.lemmas.List.{get_or-replicate, length-replicate}
use Rattle.std.proofs.lemmas.List.Elements.{All-nil, All-cons, All-head, All-tail}
use Rattle.std.proofs.lemmas.Bool.Decides.{nat_tests}
use Rattle.spdx_parser.specs.Tree.{Tree}
use Rattle.selections.specs.Selection.{IsLeast, NoneSuffices, everything}
use Rattle.spdx_evaluation.specs.Truth.{truth_of}
use Rattle.spdx_minimize.specs.Choice.{least_of}
use Rattle.spdx_minimize.specs.Places.{places_from}
use Rattle.spdx_minimize.proofs.Selections.{IsLeast-least_of, none_found}
use Rattle.spdx_why.specs.Missing.{answer_in}
use Rattle.spdx_why.specs.Least.{with_chosen, firsts_of, suffices_in, numbers_of, chosen, unmet, too_many, choice_by, choice_of}
use Rattle.spdx_why.specs.Serving.{lists_in, alone, served_by, with_served, with_numbers, serves_in, choice_among}
use Rattle.spdx_why.specs.GrowthLaws.{served_grows}

pub length-served : (taken : ℕ → Bool) (accepted : List Bool) (serving : List (List ℕ)) → length serving ≡ length accepted → length (served_by taken accepted serving) ≡ length accepted
length-served taken [] serving e = refl
length-served taken (a ∷ rest) [] e = absurd (omega arith)
length-served taken (a ∷ rest) (s ∷ ss) e = ap suc (length-served taken rest ss (omega arith))

-- a requirement that was accepted before is met
pub met_before : (taken : ℕ → Bool) (accepted : List Bool) (serving : List (Vec ℕ Global)) (k : ℕ) → length serving ≡ length accepted → answer_in accepted k ≡ true → answer_in (served_by taken accepted (lists_in serving)) k ≡ true
met_before taken [] serving k e h = h
met_before taken (a ∷ rest) [] k e h = absurd (omega arith)
met_before taken (a ∷ rest) (s ∷ ss) zero e h = first a (list_any taken s.items) h
  where
    first : (b c : Bool) → b ≡ true → (b || c) ≡ true
    first true c h = refl
    first false c h = let bad : false ≡ true = h in cc
met_before taken (a ∷ rest) (s ∷ ss) (suc k) e h = met_before taken rest ss k (omega arith) h

-- another one is met where a candidate that is taken serves it
pub met_by_served : (taken : ℕ → Bool) (accepted : List Bool) (serving : List (Vec ℕ Global)) (k : ℕ) (d : Vec ℕ Global) → length serving ≡ length accepted → k < length accepted → answer_in accepted k ≡ false
    → list_any taken (get_or serving k d).items ≡ answer_in (served_by taken accepted (lists_in serving)) k
met_by_served taken [] serving k d e h f = absurd (omega arith)
met_by_served taken (a ∷ rest) [] k d e h f = absurd (omega arith)
met_by_served taken (a ∷ rest) (s ∷ ss) zero d e h f = ap (λ (b : Bool). b || list_any taken s.items) (sym f)
met_by_served taken (a ∷ rest) (s ∷ ss) (suc k) d e h f = met_by_served taken rest ss k d (omega arith) (omega arith) f

few_enough : (n : ℕ) → n ≤ 1024 → nat_lt 1024 n ≡ false
few_enough n h = grind (arith, nat_tests, h)

pub choice_least : (t : Tree) (accepted : List Bool) (serving : List (List ℕ)) (count : ℕ) (selection : List Bool) → count ≤ 1024 → IsLeast (serves_in t accepted serving) count selection
    → choice_among t accepted serving count ≡ chosen (numbers_of selection)
choice_least t accepted serving count selection few least =
    ap (λ (b : Bool). cond b (too_many count) (choice_by (least_of (serves_in t accepted serving) count))) (few_enough count few)
    ∙ ap choice_by (IsLeast-least_of (serves_in t accepted serving) count selection least)

pub choice_unmet : (t : Tree) (accepted : List Bool) (serving : List (List ℕ)) (count : ℕ) → count ≤ 1024 → NoneSuffices (serves_in t accepted serving) count → choice_among t accepted serving count ≡ unmet
choice_unmet t accepted serving count few none =
    ap (λ (b : Bool). cond b (too_many count) (choice_by (least_of (serves_in t accepted serving) count))) (few_enough count few)
    ∙ ap choice_by (none_found (serves_in t accepted serving) count none)

-- what is said of a judge's choices is said of those that it was made for
pub of_judge : (P : (List Bool → Bool) → ℕ → Type 0) (t t2 : Tree) (accepted accepted2 : List Bool) (serving serving2 : List (List ℕ)) (count count2 : ℕ) → t ≡ t2 → accepted ≡ accepted2 → serving ≡ serving2 → count ≡ count2
    → P (serves_in t accepted serving) count → P (serves_in t2 accepted2 serving2) count2
of_judge P t t2 accepted accepted2 serving serving2 count count2 e f g k h =
    subst (λ (z : ℕ). P (serves_in t2 accepted2 serving2) z) k
    (subst (λ (z : List Bool). P (serves_in t2 z serving2) count) f
    (subst (λ (z : List (List ℕ)). P (serves_in t2 accepted z) count) g
    (subst (λ (z : Tree). P (serves_in z accepted serving) count) e h)))

or_false : (b : Bool) → (b || false) ≡ b
or_false true = refl
or_false false = refl

or_true : (a b : Bool) → b ≡ true → (a || b) ≡ true
or_true true b e = refl
or_true false b e = e

-- a requirement that its first candidate alone serves is met where that is chosen
served_alone : (accepted : List Bool) (firsts : List ℕ) (selection : List Bool) → with_served accepted (map alone firsts) selection ≡ with_chosen accepted firsts selection
served_alone [] firsts selection = refl
served_alone (a ∷ rest) [] selection = refl
served_alone (a ∷ rest) (f ∷ fs) selection =
    ap (λ (b : Bool). (a || b) ∷ with_served rest (map alone fs) selection) (or_false (answer_in selection f))
    ∙ ap (λ (z : List Bool). (a || answer_in selection f) ∷ z) (served_alone rest fs selection)

pub same_meaning : (t : Tree) (accepted candidates : List Bool) → serves_in t accepted (map alone (firsts_of t candidates)) ≡ suffices_in t accepted candidates
same_meaning t accepted candidates = fun_ext (λ s. ap (truth_of t) (served_alone accepted (firsts_of t candidates) s))

pub same_choice : (t : Tree) (accepted candidates : List Bool) → choice_among t accepted (map alone (firsts_of t candidates)) (length accepted) ≡ choice_of t accepted candidates
same_choice t accepted candidates =
    ap (λ (f : List Bool → Bool). cond (nat_lt 1024 (length accepted)) (too_many (length accepted)) (choice_by (least_of f (length accepted)))) (same_meaning t accepted candidates)

-- the numbers of the chosen are below their count
pub numbers_below : (xs : List Bool) (j n : ℕ) → j + length xs ≤ n → All (λ k. k < n) (places_from (λ b. b) j xs)
numbers_below [] j n h = All-nil (λ k. k < n)
numbers_below (true ∷ xs) j n h = All-cons (λ k. k < n) j (places_from (λ b. b) (j + 1) xs) (omega arith) (numbers_below xs (j + 1) n (omega arith))
numbers_below (false ∷ xs) j n h = numbers_below xs (j + 1) n (omega arith)

same_number : (m n : ℕ) → m ≡ n → (m == n) ≡ true
same_number m n e = grind (arith, nat_tests, e)

-- what is chosen is among the numbers of the chosen
number_there : (xs : List Bool) (j k : ℕ) → answer_in xs k ≡ true → list_any (λ n. n == j + k) (places_from (λ b. b) j xs) ≡ true
number_there [] j k e = let bad : false ≡ true = e in cc
number_there (true ∷ xs) j zero e =
    ap (λ (b : Bool). b || list_any (λ n. n == j + zero) (places_from (λ b. b) (j + 1) xs)) (same_number j (j + zero) (omega arith))
number_there (false ∷ xs) j zero e = let bad : false ≡ true = e in cc
number_there (true ∷ xs) j (suc k) e =
    let same : j + 1 + k ≡ j + suc k = omega arith in
    or_true (j == j + suc k) (list_any (λ n. n == j + suc k) (places_from (λ b. b) (j + 1) xs))
    (subst (λ (m : ℕ). list_any (λ n. n == m) (places_from (λ b. b) (j + 1) xs) ≡ true) same (number_there xs (j + 1) k e))
number_there (false ∷ xs) j (suc k) e =
    let same : j + 1 + k ≡ j + suc k = omega arith in
    subst (λ (m : ℕ). list_any (λ n. n == m) (places_from (λ b. b) (j + 1) xs) ≡ true) same (number_there xs (j + 1) k e)

-- with the numbers of a sufficient selection the expression is true
pub numbers_cure : (t : Tree) (accepted : List Bool) (serving : List (List ℕ)) (selection : List Bool) (numbers : List ℕ) → numbers ≡ numbers_of selection → serves_in t accepted serving selection ≡ true
    → truth_of t (with_numbers accepted serving numbers) ≡ true
numbers_cure t accepted serving selection numbers are h =
    subst (λ (z : List ℕ). truth_of t (with_numbers accepted serving z) ≡ true) (sym are)
    (served_grows t accepted serving (answer_in selection) (λ k. list_any (λ n. n == k) (numbers_of selection))
    (λ k e. let same : 0 + k ≡ k = omega arith in subst (λ (m : ℕ). list_any (λ n. n == m) (numbers_of selection) ≡ true) same (number_there selection 0 k e)) h)

-- a number among some that are below n is below n
below_of : (numbers : List ℕ) (n k : ℕ) → All (λ m. m < n) numbers → list_any (λ m. m == k) numbers ≡ true → k < n
below_of [] n k h e = let bad : false ≡ true = e in cc
below_of (m ∷ ms) n k h e =
    let first : m < n = All-head (λ m. m < n) m ms h in
    first_or_later (m == k) (list_any (λ m. m == k) ms) (λ is. let same : m ≡ k = eqb-true m k is in omega arith) (below_of ms n k (All-tail (λ m. m < n) m ms h)) e
  where
    first_or_later : (b l : Bool) → (b ≡ true → k < n) → (l ≡ true → k < n) → (b || l) ≡ true → k < n
    first_or_later true l f g e = f refl
    first_or_later false l f g e = g e

-- where no selection suffices, no numbers do
pub no_numbers_cure : (t : Tree) (accepted : List Bool) (serving : List (List ℕ)) (count : ℕ) → NoneSuffices (serves_in t accepted serving) count
    → (numbers : List ℕ) → All (λ k. k < count) numbers → truth_of t (with_numbers accepted serving numbers) ≡ false
no_numbers_cure t accepted serving count none numbers below = either (truth_of t (with_numbers accepted serving numbers)) refl
  where
    all_true : truth_of t (with_numbers accepted serving numbers) ≡ true → serves_in t accepted serving (everything count) ≡ true
    all_true e = served_grows t accepted serving (λ k. list_any (λ n. n == k) numbers) (answer_in (everything count)) (λ k h. get_or-replicate count k true false (below_of numbers count k below h)) e

    either : (b : Bool) → truth_of t (with_numbers accepted serving numbers) ≡ b → b ≡ false
    either true e = let bad : true ≡ false = sym (all_true e) ∙ none (everything count) (length-replicate count true) in cc
    either false e = refl
