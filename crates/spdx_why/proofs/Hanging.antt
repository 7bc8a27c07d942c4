-- What is listed as missing is what the refusal hangs on.
use Rattle.std.proofs.Common.{◌≡◌, ℕ, suc, ◌+◌, Bool, true, false, ◌&&◌, ◌||◌, cond, List, [], ◌∷◌, ◌++◌, length, refl, sym, ◌∙◌, arith}
use Rattle.std.specs.Prelude.{not, ◌==◌}
use Rattle.std.specs.List.{list_all}
use Rattle.std.proofs.lemmas.Bool.Decides.{nat_tests}
use Rattle.spdx_parser.specs.declared.node.Operator.{Operator}
use Rattle.spdx_parser.specs.declared.node.Operator.TheVariants.{And, Or}
use Rattle.spdx_parser.specs.Tree.{Tree, Leaf, Join, leaves}
use Rattle.spdx_evaluation.specs.Truth.{joined, truth_of}
use Rattle.spdx_why.specs.Missing.{answer_in, truth_from, missing_from, missing_of, Cures, Binds}
use Rattle.spdx_why.specs.GrowthLaws.{within_at}
use Rattle.spdx_why.proofs.Numbering.{truth_numbered}

all_front : (p : ℕ → Bool) (xs ys : List ℕ) → list_all p (xs ++ ys) ≡ true → list_all p xs ≡ true
all_front p [] ys h = refl
all_front p (x ∷ xs) ys h = both_front (p x) (list_all p xs) (list_all p (xs ++ ys)) (all_front p xs ys) h
  where
    both_front : (b c d : Bool) → (d ≡ true → c ≡ true) → (b && d) ≡ true → (b && c) ≡ true
    both_front true c d f e = f e
    both_front false c d f e = e

all_rest : (p : ℕ → Bool) (xs ys : List ℕ) → list_all p (xs ++ ys) ≡ true → list_all p ys ≡ true
all_rest p [] ys h = h
all_rest p (x ∷ xs) ys h = all_rest p xs ys (second (p x) (list_all p (xs ++ ys)) h)
  where
    second : (b d : Bool) → (b && d) ≡ true → d ≡ true
    second true d e = e
    second false d e = let bad : false ≡ true = e in cc

leaf_cured : (b c : Bool) → (b ≡ true → c ≡ true) → (p : ℕ → Bool) (k : ℕ) → p k ≡ c → list_all p (cond b [] (k ∷ [])) ≡ true → c ≡ true
leaf_cured true c f p k e h = f refl
leaf_cured false c f p k e h = rw (← e) (front (p k) h)
  where
    front : (x : Bool) → (x && true) ≡ true → x ≡ true
    front true z = refl
    front false z = z

grown : (o : Operator) (x y v w : Bool) → (x ≡ true → v ≡ true) → (y ≡ true → w ≡ true) → joined o x y ≡ true → joined o v w ≡ true
grown And true true v w f g h = rw (f refl, g refl) refl
grown And true false v w f g h = let bad : false ≡ true = h in cc
grown And false y v w f g h = let bad : false ≡ true = h in cc
grown Or x true v w f g h = rw (g refl) (or_true v)
  where
    or_true : (v : Bool) → (v || true) ≡ true
    or_true true = refl
    or_true false = refl
grown Or true false v w f g h = rw (f refl) (true_or w)
  where
    true_or : (w : Bool) → (true || w) ≡ true
    true_or true = refl
    true_or false = refl
grown Or false false v w f g h = let bad : false ≡ true = h in cc

both_true : (o : Operator) (v w : Bool) → v ≡ true → w ≡ true → joined o v w ≡ true
both_true And v w e f = rw (e, f) refl
both_true Or v w e f = rw e refl

grows : (a more : ℕ → Bool) → ((k : ℕ) → a k ≡ true → more k ≡ true) → (k : ℕ) (t : Tree) → truth_from a k t ≡ true → truth_from more k t ≡ true
grows a more f k (Leaf r) h = f k h
grows a more f k (Join o l r) h =
    let m = k + length (leaves l) in
    grown o (truth_from a k l) (truth_from a m r) (truth_from more k l) (truth_from more m r) (grows a more f k l) (grows a more f m r) h

join_cured : (o : Operator) (b v w : Bool) (p : ℕ → Bool) (g h : List ℕ) → (list_all p g ≡ true → v ≡ true) → (list_all p h ≡ true → w ≡ true) → (b ≡ true → joined o v w ≡ true) → list_all p (cond b [] (g ++ h)) ≡ true → joined o v w ≡ true
join_cured o true v w p g h f k grow e = grow refl
join_cured o false v w p g h f k grow e = both_true o v w (f (all_front p g h e)) (k (all_rest p g h e))

cures_from : (a more : ℕ → Bool) → ((k : ℕ) → a k ≡ true → more k ≡ true) → (k : ℕ) (t : Tree) → list_all more (missing_from a k t) ≡ true → truth_from more k t ≡ true
cures_from a more f k (Leaf r) h = leaf_cured (a k) (more k) (f k) more k refl h
cures_from a more f k (Join o l r) h =
    let m = k + length (leaves l) in
    join_cured o (joined o (truth_from a k l) (truth_from a m r)) (truth_from more k l) (truth_from more m r) more (missing_from a k l) (missing_from a m r) (cures_from a more f k l) (cures_from a more f m r)
    (λ e. grown o (truth_from a k l) (truth_from a m r) (truth_from more k l) (truth_from more m r) (grows a more f k l) (grows a more f m r) e) h

leaf_bound : (b : Bool) (p : ℕ → Bool) (k : ℕ) → b ≡ false → list_all (λ s. not (p s)) (cond b [] (k ∷ [])) ≡ true → p k ≡ false
leaf_bound true p k e h = let bad : true ≡ false = e in cc
leaf_bound false p k e h = front (p k) h
  where
    front : (x : Bool) → (not x && true) ≡ true → x ≡ false
    front true z = let bad : false ≡ true = z in cc
    front false z = refl

join_bound : (o : Operator) (x y v w : Bool) (p : ℕ → Bool) (g h : List ℕ) → joined o x y ≡ false → (x ≡ false → list_all p g ≡ true → v ≡ false) → (y ≡ false → list_all p h ≡ true → w ≡ false) → list_all p (cond (joined o x y) [] (g ++ h)) ≡ true → joined o v w ≡ false
join_bound And false y v w p g h e f k m = rw (f refl (all_front p g h m)) refl
join_bound And true false v w p g h e f k m = rw (k refl (all_rest p g h m)) (and_false v)
  where
    and_false : (v : Bool) → (v && false) ≡ false
    and_false true = refl
    and_false false = refl
join_bound And true true v w p g h e f k m = let bad : true ≡ false = e in cc
join_bound Or false false v w p g h e f k m = rw (f refl (all_front p g h m), k refl (all_rest p g h m)) refl
join_bound Or true y v w p g h e f k m = let bad : true ≡ false = or_one y e in cc
  where
    or_one : (y : Bool) → (true || y) ≡ false → true ≡ false
    or_one true z = z
    or_one false z = z
join_bound Or false true v w p g h e f k m = let bad : true ≡ false = e in cc

binds_from : (a other : ℕ → Bool) (k : ℕ) (t : Tree) → truth_from a k t ≡ false → list_all (λ s. not (other s)) (missing_from a k t) ≡ true → truth_from other k t ≡ false
binds_from a other k (Leaf r) e h = leaf_bound (a k) other k e h
binds_from a other k (Join o l r) e h =
    let m = k + length (leaves l) in
    join_bound o (truth_from a k l) (truth_from a m r) (truth_from other k l) (truth_from other m r) (λ s. not (other s)) (missing_from a k l) (missing_from a m r) e (λ z. binds_from a other k l z) (λ z. binds_from a other m r z) h

pub cures : (t : Tree) (answers : List Bool) → Cures t answers (missing_of t answers)
cures t answers more within h = truth_numbered t more ∙ cures_from (answer_in answers) (answer_in more) (within_at answers more within) 0 t h

pub binds : (t : Tree) (answers : List Bool) → Binds t answers (missing_of t answers)
binds t answers e other h = truth_numbered t other ∙ binds_from (answer_in answers) (answer_in other) 0 t (sym (truth_numbered t answers) ∙ e) h

some_not_none : (n : ℕ) → (suc n == 0) ≡ false
some_not_none n = grind (arith, nat_tests)

-- nothing is missing exactly where the tree is true
none_missing : (o : Operator) (x y : Bool) (g h : List ℕ) → (length g == 0) ≡ x → (length h == 0) ≡ y → (length (cond (joined o x y) [] (g ++ h)) == 0) ≡ joined o x y
none_missing And true true g h e f = refl
none_missing And true false g [] e f = let bad : true ≡ false = f in cc
none_missing And true false [] (h ∷ hs) e f = f
none_missing And true false (g ∷ gs) (h ∷ hs) e f = some_not_none (length (gs ++ h ∷ hs))
none_missing And false y [] h e f = let bad : true ≡ false = e in cc
none_missing And false y (g ∷ gs) h e f = some_not_none (length (gs ++ h))
none_missing Or true y g h e f = refl
none_missing Or false true g h e f = refl
none_missing Or false false [] h e f = let bad : true ≡ false = e in cc
none_missing Or false false (g ∷ gs) h e f = some_not_none (length (gs ++ h))

empty_from : (a : ℕ → Bool) (k : ℕ) (t : Tree) → (length (missing_from a k t) == 0) ≡ truth_from a k t
empty_from a k (Leaf r) = leaf (a k)
  where
    leaf : (b : Bool) → (length (cond b [] (k ∷ [])) == 0) ≡ b
    leaf true = refl
    leaf false = refl
empty_from a k (Join o l r) =
    let m = k + length (leaves l) in
    none_missing o (truth_from a k l) (truth_from a m r) (missing_from a k l) (missing_from a m r) (empty_from a k l) (empty_from a m r)

pub empty_missing : (t : Tree) (answers : List Bool) → (length (missing_of t answers) == 0) ≡ truth_of t answers
empty_missing t answers = empty_from (answer_in answers) 0 t ∙ sym (truth_numbered t answers)
