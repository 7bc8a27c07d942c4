-- The first rule that gives any.
use Rattle.std.proofs.Common.{◌≡◌, ℕ, suc, ◌+◌, ◌<◌, Bool, true, false, cond, List, [], ◌∷◌, ◌++◌, length, get_or, drop, refl, sym, ◌∙◌, ap, subst, arith, Option, None, Some, find, All}
use Rattle.std.proofs.Math.Seq.{drop-cons}
use Rattle.std.proofs.lemmas.List.Elements.{All-nil, All-cons}

-- ---- what is found

-- two tests that agree find the same
pub find_same : {X : Type 0} (p q : X → Bool) → ((x : X) → p x ≡ q x) → (xs : List X) → find p xs ≡ find q xs
find_same p q e [] = refl
find_same p q e (x ∷ xs) = ap (λ b. cond b (Some x) (find p xs)) (e x) ∙ ap (cond (q x) (Some x)) (find_same p q e xs)

-- an element that is passed over leaves the search to those behind it
pub find_skips : {X : Type 0} (p : X → Bool) (xs : List X) (i : ℕ) (d : X) (o : Option X) → i < length xs → p (get_or xs i d) ≡ false → find p (drop i xs) ≡ o → find p (drop (i + 1) xs) ≡ o
find_skips p xs i d o lt fails h =
    let here = ap (find p) (drop-cons xs i d lt) in
    let next = ap (λ b. cond b (Some (get_or xs i d)) (find p (drop (suc i) xs))) fails in
    let one : suc i ≡ i + 1 = omega arith in
    subst (λ n. find p (drop n xs) ≡ o) one (sym next ∙ sym here ∙ h)

-- ---- what stands before it

-- an element is found behind others that don't pass
pub record Found {X : Type 0} (p : X → Bool) (xs : List X) (x : X) : Type 0 where
  pub before : List X
  pub behind : List X
  pub order : xs ≡ before ++ x ∷ behind
  pub passes : p x ≡ true
  pub silent : All (λ y. p y ≡ false) before

-- what a search finds, or that nothing passes
abbrev pub Search : {X : Type 0} → (X → Bool) → List X → Option X → Type 0
Search p xs None = All (λ y. p y ≡ false) xs
Search p xs (Some x) = Found p xs x

module _ {X : Type 0} (p : X → Bool) where
  grown : (x : X) (xs : List X) (o : Option X) → p x ≡ false → Search p xs o → Search p (x ∷ xs) o
  grown x xs None fails h = All-cons (λ y. p y ≡ false) x xs fails h
  grown x xs (Some y) fails h = record {
    before = x ∷ h.before;
    behind = h.behind;
    order = ap (λ ys. x ∷ ys) h.order;
    passes = h.passes;
    silent = All-cons (λ z. p z ≡ false) x h.before fails h.silent;
  }

  by_test : (x : X) (xs : List X) (b : Bool) → p x ≡ b → Search p xs (find p xs) → Search p (x ∷ xs) (cond b (Some x) (find p xs))
  by_test x xs true e h = record { before = []; behind = xs; order = refl; passes = e; silent = All-nil (λ z. p z ≡ false) }
  by_test x xs false e h = grown x xs (find p xs) e h

  pub searched : (xs : List X) → Search p xs (find p xs)
  searched [] = All-nil (λ y. p y ≡ false)
  searched (x ∷ xs) = by_test x xs (p x) refl (searched xs)
