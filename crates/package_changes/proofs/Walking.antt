-- A walk through two lists of packages in order: what was found, and what is found of the rest.
use Rattle.std.proofs.Common.{◌≡◌, ℕ, zero, suc, ◌+◌, ◌<◌, ◌≤◌, true, false, List, [], ◌∷◌, ◌++◌, length, get_or, map, drop, refl, sym, ap, ◌∙◌, subst, append_assoc}
use Rattle.std.specs.List.{AllByRecursion}
use Rattle.std.specs.Ordering.{is_eq, ordering_reverse}
use Rattle.std.specs.declared.cmp.Ordering.{Ordering}
use Rattle.std.specs.declared.cmp.Ordering.TheVariants.{Less, Equal, Greater}
use Rattle.std.proofs.lemmas.List.{append-nil, drop_more, drop_all}
use Rattle.package_changes.specs.declared.changes.likeness.Likeness.{Likeness}
use Rattle.package_changes.specs.declared.package.Package.{Package}
use Rattle.package_changes.specs.Rows.{Row, row_of}
use Rattle.package_changes.specs.Order.{front_cmp}
use Rattle.package_changes.specs.Pairing.{Paired, with_old, with_new, is_like, pair_all}
use Rattle.package_changes.specs.Steps.{Rises, before}
use Rattle.package_changes.proofs.Orders.{front_total}
use Rattle.package_changes.proofs.Merging.{old_left, new_left, less_all}

abbrev pub rest : List Package → ℕ → List Row
rest xs i = map row_of (drop i xs)

rises_rest : (l : Likeness) (i : ℕ) (xs : List Package) → Rises (front_cmp l) (map row_of xs) → Rises (front_cmp l) (rest xs i)
rises_rest l zero xs h = h
rises_rest l (suc i) [] h = tt
rises_rest l (suc i) (x ∷ xs) h = rises_rest l i xs h.1

rest_more : (xs : List Package) (i : ℕ) (d : Package) → i < length xs → rest xs i ≡ row_of (get_or xs i d) ∷ rest xs (i + 1)
rest_more xs i d low = ap (λ (ps : List Package). map row_of ps) (drop_more xs i d low)

abbrev pub more_old : Paired Row → Row → Paired Row
more_old p x = record { pairs = p.pairs; old = p.old ++ x ∷ []; new = p.new }

abbrev pub more_new : Paired Row → Row → Paired Row
more_new p y = record { pairs = p.pairs; old = p.old; new = p.new ++ y ∷ [] }

old_moved : (p q : Paired Row) (x : Row) → before (more_old p x) q ≡ before p (with_old x q)
old_moved p q x =
    let made : List Row → Paired Row = λ olds. record { pairs = p.pairs ++ q.pairs; old = olds; new = p.new ++ q.new } in
    ap made (append_assoc p.old (x ∷ []) q.old)

new_moved : (p q : Paired Row) (y : Row) → before (more_new p y) q ≡ before p (with_new y q)
new_moved p q y =
    let made : List Row → Paired Row = λ news. record { pairs = p.pairs ++ q.pairs; old = p.old ++ q.old; new = news } in
    ap made (append_assoc p.new (y ∷ []) q.new)

less_left : (l : Likeness) (x y : Row) (xs ys : List Row) → front_cmp l x y ≡ Less → Rises (front_cmp l) (y ∷ ys) → pair_all (is_like l) (x ∷ xs) (y ∷ ys) ≡ with_old x (pair_all (is_like l) xs (y ∷ ys))
less_left l x y xs ys h up = old_left (is_like l) x xs (y ∷ ys) (less_all (front_cmp l) (front_total l) x y ys h up)

greater_left : (l : Likeness) (x y : Row) (xs ys : List Row) → front_cmp l x y ≡ Greater → Rises (front_cmp l) (x ∷ xs) → pair_all (is_like l) (x ∷ xs) (y ∷ ys) ≡ with_new y (pair_all (is_like l) (x ∷ xs) ys)
greater_left l x y xs ys h up =
    new_left (is_like l) y (x ∷ xs) ys (turned (x ∷ xs) (less_all (front_cmp l) (front_total l) y x xs ((front_total l).antisymm y x ∙ ap ordering_reverse h) up))
  where
    same : (a : Ordering) → is_eq a ≡ false → is_eq (ordering_reverse a) ≡ false
    same Less g = refl
    same Equal g = absurd (let bad : true ≡ false = g in cc)
    same Greater g = refl

    turned : (zs : List Row) → AllByRecursion (λ z. is_eq (front_cmp l y z) ≡ false) zs → AllByRecursion (λ z. is_like l z y ≡ false) zs
    turned [] g = tt
    turned (z ∷ zs) g = (ap is_eq ((front_total l).antisymm z y) ∙ same (front_cmp l y z) g.0, turned zs g.1)

pub less_step : (l : Likeness) (found : Paired Row) (xs ys : List Package) (i j : ℕ) (d e : Package) → i < length xs → j < length ys → front_cmp l (row_of (get_or xs i d)) (row_of (get_or ys j e)) ≡ Less → Rises (front_cmp l) (map row_of ys)
    → before (more_old found (row_of (get_or xs i d))) (pair_all (is_like l) (rest xs (i + 1)) (rest ys j)) ≡ before found (pair_all (is_like l) (rest xs i) (rest ys j))
less_step l found xs ys i j d e low lower h up =
    let x = row_of (get_or xs i d) in
    let y = row_of (get_or ys j e) in
    let behind = rest_more ys j e lower in
    let left : pair_all (is_like l) (x ∷ rest xs (i + 1)) (rest ys j) ≡ with_old x (pair_all (is_like l) (rest xs (i + 1)) (rest ys j)) =
    subst (λ (zs : List Row). pair_all (is_like l) (x ∷ rest xs (i + 1)) zs ≡ with_old x (pair_all (is_like l) (rest xs (i + 1)) zs)) (sym behind)
    (less_left l x y (rest xs (i + 1)) (rest ys (j + 1)) h (subst (Rises (front_cmp l)) behind (rises_rest l j ys up))) in
    old_moved found (pair_all (is_like l) (rest xs (i + 1)) (rest ys j)) x
    ∙ sym (ap (before found) (ap (λ (zs : List Row). pair_all (is_like l) zs (rest ys j)) (rest_more xs i d low) ∙ left))

pub greater_step : (l : Likeness) (found : Paired Row) (xs ys : List Package) (i j : ℕ) (d e : Package) → i < length xs → j < length ys → front_cmp l (row_of (get_or xs i d)) (row_of (get_or ys j e)) ≡ Greater → Rises (front_cmp l) (map row_of xs)
    → before (more_new found (row_of (get_or ys j e))) (pair_all (is_like l) (rest xs i) (rest ys (j + 1))) ≡ before found (pair_all (is_like l) (rest xs i) (rest ys j))
greater_step l found xs ys i j d e low lower h up =
    let x = row_of (get_or xs i d) in
    let y = row_of (get_or ys j e) in
    let behind = rest_more xs i d low in
    let left : pair_all (is_like l) (rest xs i) (y ∷ rest ys (j + 1)) ≡ with_new y (pair_all (is_like l) (rest xs i) (rest ys (j + 1))) =
    subst (λ (zs : List Row). pair_all (is_like l) zs (y ∷ rest ys (j + 1)) ≡ with_new y (pair_all (is_like l) zs (rest ys (j + 1)))) (sym behind)
    (greater_left l x y (rest xs (i + 1)) (rest ys (j + 1)) h (subst (Rises (front_cmp l)) behind (rises_rest l i xs up))) in
    new_moved found (pair_all (is_like l) (rest xs i) (rest ys (j + 1))) y
    ∙ sym (ap (before found) (ap (λ (zs : List Row). pair_all (is_like l) (rest xs i) zs) (rest_more ys j e lower) ∙ left))

no_new : (l : Likeness) (xs : List Row) → pair_all (is_like l) xs [] ≡ record { pairs = []; old = xs; new = [] }
no_new l [] = refl
no_new l (x ∷ xs) = ap (with_old x) (no_new l xs)

abbrev pub ended : Paired Row → List Row → List Row → Paired Row
ended p olds news = record { pairs = p.pairs; old = p.old ++ olds; new = p.new ++ news }

pub no_old_left : (l : Likeness) (found : Paired Row) (xs ys : List Package) (i j : ℕ) → length xs ≤ i → ended found (rest xs i) (rest ys j) ≡ before found (pair_all (is_like l) (rest xs i) (rest ys j))
no_old_left l found xs ys i j high =
    rw (drop_all i xs high)
    (let made : List (Row × Row) → Paired Row = λ pairs. record { pairs = pairs; old = found.old ++ []; new = found.new ++ rest ys j } in
    sym (ap made (append-nil found.pairs)))

pub no_new_left : (l : Likeness) (found : Paired Row) (xs ys : List Package) (i j : ℕ) → length ys ≤ j → ended found (rest xs i) (rest ys j) ≡ before found (pair_all (is_like l) (rest xs i) (rest ys j))
no_new_left l found xs ys i j high =
    rw (drop_all j ys high, no_new l (rest xs i))
    (let made : List (Row × Row) → Paired Row = λ pairs. record { pairs = pairs; old = found.old ++ rest xs i; new = found.new ++ [] } in
    sym (ap made (append-nil found.pairs)))
