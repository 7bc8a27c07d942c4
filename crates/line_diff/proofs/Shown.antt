-- Which rows a diff shows.
use Rattle.std.proofs.Common.{◌≡◌, ℕ, zero, suc, ◌+◌, ◌-◌, ◌<◌, ◌≤◌, Bool, true, false, ◌||◌, cond, Result, Ok, Err, OnOk, is_ok, List, [], ◌∷◌, ◌++◌, length, get_or, take, drop, map, min, refl, sym, ap, ◌∙◌, subst, append-nil, zero-add, arith}
use Rattle.std.specs.List.{flat_map, list_any, prefix_len, range_with_len}
use Rattle.std.proofs.lemmas.Grind.{flat_map-append}
use Rattle.line_diff.specs.declared.rows.Row.{Row}
use Rattle.line_diff.specs.Diff.{pair_of, has_old, has_new, range_text, hunk_len, hunk_head}
use Rattle.std.specs.Prelude.{codes, count_by, if◌then◌else◌}
use Rattle.std.proofs.lemmas.List.{take-map, drop-map, take_min, length-drop}
use Rattle.std.proofs.lemmas.List.Sums.{sum_by-cons}

pub list_any-map : {A B : Type 0} (f : A → B) (p : B → Bool) (xs : List A) → list_any p (map f xs) ≡ list_any (λ x. p (f x)) xs
list_any-map f p [] = refl
list_any-map f p (x ∷ xs) = ap (λ (b : Bool). p (f x) || b) (list_any-map f p xs)

pub count_by-map : {A B : Type 0} (f : A → B) (p : B → Bool) (xs : List A) → count_by p (map f xs) ≡ count_by (λ x. p (f x)) xs
count_by-map f p [] = refl
count_by-map f p (x ∷ xs) =
    sum_by-cons (λ y. if p y then 1 else 0) (f x) (map f xs) ∙ ap (λ (n : ℕ). (if p (f x) then 1 else 0) + n) (count_by-map f p xs) ∙ sym (sum_by-cons (λ y. if p (f y) then 1 else 0) x xs)

pub get_or-map : {A B : Type 0} (f : A → B) (xs : List A) (i : ℕ) (d : A) (e : B) → i < length xs → get_or (map f xs) i e ≡ f (get_or xs i d)
get_or-map f [] i d e l = absurd (omega arith)
get_or-map f (x ∷ xs) zero d e l = refl
get_or-map f (x ∷ xs) (suc i) d e l = get_or-map f xs i d e (omega arith)

-- a window of rows, from `low` up to `high` or the last
pub window : {A B : Type 0} (f : A → B) (xs : List A) (low high : ℕ) → low ≤ high → map f (take (min (length xs) high - low) (drop low xs)) ≡ take (high - low) (drop low (map f xs))
window f xs low high l =
    ap (λ (n : ℕ). map f (take n (drop low xs))) (omega (arith, length-drop low xs))
    ∙ ap (map f) (take_min (high - low) (drop low xs))
    ∙ sym (take-map f (high - low) (drop low xs))
    ∙ ap (take (high - low)) (sym (drop-map f low xs))

pub prefix_len-more : (p : ℕ → Bool) (a n m : ℕ) → n ≡ suc m → p a ≡ true → prefix_len p (range_with_len a n) ≡ 1 + prefix_len p (range_with_len (a + 1) m)
prefix_len-more p a n m e t = subst (λ (k : ℕ). prefix_len p (range_with_len a k) ≡ 1 + prefix_len p (range_with_len (a + 1) m)) (sym e) (rw t refl)

pub prefix_len-end : (p : ℕ → Bool) (a n m : ℕ) → n ≡ suc m → p a ≡ false → prefix_len p (range_with_len a n) ≡ 0
prefix_len-end p a n m e t = subst (λ (k : ℕ). prefix_len p (range_with_len a k) ≡ 0) (sym e) (rw t refl)

pub on_ok : {A E : Type 0} (r : Result A E) (x y z : List ℕ) → x ≡ cond (is_ok r) y z → OnOk r (x ≡ y)
on_ok (Ok v) x y z e = e
on_ok (Err v) x y z e = tt

-- the rows of a hunk
hunk_rows : (rows : List Row) (i len : ℕ) → len ≡ hunk_len (map pair_of rows) i →
    take (hunk_len (map pair_of rows) i) (drop i (map pair_of rows)) ≡ map pair_of (take (i + len - i) (drop i rows))
hunk_rows rows i len e =
    let n : len ≡ i + len - i = omega arith in
    ap (λ (k : ℕ). take k (drop i (map pair_of rows))) (sym e ∙ n) ∙ ap (take (i + len - i)) (drop-map pair_of i rows) ∙ take-map pair_of (i + len - i) (drop i rows)

pub hunk_head-is : (rows : List Row) (i len a b : ℕ) → len ≡ hunk_len (map pair_of rows) i →
    a ≡ count_by (λ r. has_old (pair_of r)) (take (i + len - i) (drop i rows)) →
    b ≡ count_by (λ r. has_new (pair_of r)) (take (i + len - i) (drop i rows)) →
    hunk_head (map pair_of rows) i ≡ codes "@@ -" ++ (range_text i a ++ (codes " +" ++ (range_text i b ++ codes " @@\n")))
unfolding hunk_head
hunk_head-is rows i len a b e f g =
    let hunk = take (i + len - i) (drop i rows) in
    let olds = ap (count_by has_old) (hunk_rows rows i len e) ∙ count_by-map pair_of has_old hunk ∙ sym f in
    let news = ap (count_by has_new) (hunk_rows rows i len e) ∙ count_by-map pair_of has_new hunk ∙ sym g in
    ap (λ (n : ℕ). codes "@@ -" ++ (range_text i n ++ (codes " +" ++ (range_text i (count_by has_new (take (hunk_len (map pair_of rows) i) (drop i (map pair_of rows)))) ++ codes " @@\n")))) olds
    ∙ ap (λ (n : ℕ). codes "@@ -" ++ (range_text i a ++ (codes " +" ++ (range_text i n ++ codes " @@\n")))) news

-- one more row
range-push : (a n : ℕ) → range_with_len a (suc n) ≡ range_with_len a n ++ (a + n) ∷ []
range-push a zero = ap (λ (k : ℕ). k ∷ []) (omega arith)
range-push a (suc n) = ap (λ (ks : List ℕ). a ∷ ks) (range-push (a + 1) n ∙ ap (λ (k : ℕ). range_with_len (a + 1) n ++ k ∷ []) (omega arith))

pub flat_map-range : (f : ℕ → List ℕ) (i : ℕ) → flat_map f (range_with_len 0 (i + 1)) ≡ flat_map f (range_with_len 0 i) ++ f i
flat_map-range f i =
    let next : i + 1 ≡ suc i = omega arith in
    ap (λ (k : ℕ). flat_map f (range_with_len 0 k)) next ∙ ap (flat_map f) (range-push 0 i)
    ∙ flat_map-append f (range_with_len 0 i) ((0 + i) ∷ [])
    ∙ ap (λ (xs : List ℕ). flat_map f (range_with_len 0 i) ++ xs) (append-nil (f (0 + i)) ∙ ap f (zero-add i))
