-- What an index of rows finds is what a walk over the rows finds.
use Rattle.std.proofs.Common.{◌≡◌, ℕ, zero, suc, ◌+◌, ◌*◌, ◌/◌, ◌%◌, ◌<◌, ◌≤◌, ◌⊎◌, inl, inr, Bool, true, false, List, [], ◌∷◌, ◌++◌, length, get_or, Option, Some, None, find, refl, ◌∙◌, arith, subst, IsSome}
use Rattle.std.specs.Prelude.{slice_get}
use Rattle.std.specs.Prelude.{nat_lt}
use Rattle.std.specs.List.Sorted.{IsPartitionPoint, IsPermutation, IsNonDecreasing}
use Rattle.std.proofs.lemmas.List.{length-append, get_or_append_left}
use Rattle.std.proofs.Math.Seq.{get_or-append_seam}
use Rattle.std.proofs.lemmas.List.Sorted.{Contains-permutation}
use Rattle.std.proofs.lemmas.Bool.Decides.{nat_tests}
use Rattle.std.specs.List.{Contains}
use Rattle.spdx_catalogue.specs.Index.{key_of, code, IsIndexOf}
use Rattle.spdx_catalogue.proofs.Sorted.{find_at, find_nowhere}

side : (k i : ℕ) → (k < i) ⊎ (i ≤ k)
side k i = grind arith

-- a default counts beyond the end alone
pub same_default : {A : Type 0} (xs : List A) (i : ℕ) (d e : A) → i < length xs → get_or xs i d ≡ get_or xs i e
same_default [] i d e lt = absurd (omega arith)
same_default (x ∷ xs) zero d e lt = refl
same_default (x ∷ xs) (suc i) d e lt = same_default xs i d e (omega arith)

-- no row fits whose code stands before that place
abbrev pub Passed : {A : Type 0} → (A → Bool) → List A → List ℕ → ℕ → ℕ → Type 0
Passed {A} p rows codes key n = (m k : ℕ) (d : A) → m < n → k < length rows → get_or codes m 0 ≡ code key k → p (get_or rows k d) ≡ false

module _ {A : Type 0} (p : A → Bool) (keyed : A → Option (List ℕ)) (rows : List A) (codes : List ℕ) (key : ℕ)
    (index : IsIndexOf keyed rows codes) (relevant : (r : A) (bytes : List ℕ) → p r ≡ true → keyed r ≡ Some bytes → key_of bytes ≡ key) where
  pub passed_none : (n : ℕ) → ((m : ℕ) → m < n → get_or codes m 0 < key * 4294967296) → Passed p rows codes key n
  passed_none n below m k d lt in_rows at = absurd (omega (arith, below m lt))

  pub passed_more : (n : ℕ) → Passed p rows codes key n → ((k : ℕ) (d : A) → k < length rows → get_or codes n 0 ≡ code key k → p (get_or rows k d) ≡ false) → Passed p rows codes key (n + 1)
  passed_more n passed here m k d lt in_rows at = split (side m n)
    where
      split : (m < n) ⊎ (n ≤ m) → p (get_or rows k d) ≡ false
      split (inl l) = passed m k d l in_rows at
      split (inr g) = let same : m ≡ n = omega arith in here k d in_rows (subst (λ (i : ℕ). get_or codes i 0 ≡ code key k) same at)

  missed : (n : ℕ) → Passed p rows codes key n → (k : ℕ) (d : A) → k < length rows → ((m : ℕ) → m < length codes → get_or codes m 0 ≡ code key k → m < n) → p (get_or rows k d) ≡ false
  missed n passed k d lt early = pick (p (get_or rows k d)) refl
    where
      pick : (b : Bool) → p (get_or rows k d) ≡ b → p (get_or rows k d) ≡ false
      pick false e = e
      pick true e =
          let held = index.holds k d lt in
          let same : key_of held.0 ≡ key = relevant (get_or rows k d) held.0 e held.1 in
          let m = held.2.0 in
          let own : get_or codes m 0 ≡ code (key_of held.0) k = same_default codes m 0 (code (key_of held.0) k) held.2.1 ∙ held.2.2 in
          let at : get_or codes m 0 ≡ code key k = subst (λ (q : ℕ). get_or codes m 0 ≡ code q k) same own in
          passed m k d (early m held.2.1 at) lt at

  -- all codes were seen
  pub none_left : (n : ℕ) → length codes ≤ n → Passed p rows codes key n → find p rows ≡ None
  none_left n all passed = find_nowhere p rows (λ k d lt. missed n passed k d lt (λ m l at. omega arith))

  -- the code at that place, and so each later one, has a greater key
  pub none_behind : (n : ℕ) → n < length codes → key * 4294967296 + 4294967296 ≤ get_or codes n 0 → Passed p rows codes key n → find p rows ≡ None
  none_behind n in_codes beyond passed = find_nowhere p rows (λ k d lt. missed n passed k d lt (λ m l at. early k lt m l at (side m n)))
    where
      early : (k : ℕ) → k < length rows → (m : ℕ) → m < length codes → get_or codes m 0 ≡ code key k → (m < n) ⊎ (n ≤ m) → m < n
      early k lt m l at (inl before) = before
      early k lt m l at (inr behind) = absurd (omega (arith, index.rise n m 0 behind l, index.few, at, lt, beyond))

  -- the row of the code at that place fits
  pub found_here : (n k : ℕ) (d : A) → n < length codes → k < length rows → get_or codes n 0 ≡ code key k → p (get_or rows k d) ≡ true → Passed p rows codes key n → find p rows ≡ slice_get rows k
  found_here n k d in_codes in_rows at fits passed =
      find_at p rows k d in_rows fits (λ j l. missed n passed j d (omega arith) (λ m in_range there. early j l m in_range there (side m n)))
    where
      early : (j : ℕ) → j < k → (m : ℕ) → m < length codes → get_or codes m 0 ≡ code key j → (m < n) ⊎ (n ≤ m) → m < n
      early j l m in_range there (inl before) = before
      early j l m in_range there (inr behind) = absurd (omega (arith, index.rise n m 0 behind in_range, at, there, l))

-- what halving says of codes that are searched for the least with a key
pub least_found : (xs codes : List ℕ) (least from : ℕ) → xs ≡ codes → IsPartitionPoint (λ y. nat_lt y least ≡ true) (λ y. nat_lt y least ≡ false) xs from → (m : ℕ) → m < from → get_or codes m 0 < least
least_found xs codes least from same split m lt = subst (λ (ys : List ℕ). get_or ys m 0 < least) same low
  where
    low : get_or xs m 0 < least
    low = let e = split.0 m 0 (omega arith) lt in grind (arith, nat_tests)

pub place_is : (x key k : ℕ) → x ≡ key * 4294967296 + k → k < 4294967296 → x % 4294967296 ≡ k
place_is x key k e lt = omega arith

pub key_is : (x key k : ℕ) → x ≡ key * 4294967296 + k → k < 4294967296 → x / 4294967296 ≡ key
key_is x key k e lt = omega arith

pub code_is : (x key : ℕ) → x / 4294967296 ≡ key → x ≡ key * 4294967296 + x % 4294967296
code_is x key e = omega arith

pub not_some : {A : Type 0} (o : Option A) → o ≡ None → IsSome o → ⊥
not_some None e s = absurd cc
not_some (Some x) e s = absurd cc

-- the codes of the rows before that place
abbrev pub AreCodes : {A : Type 0} → (A → Option (List ℕ)) → List A → List ℕ → ℕ → Type 0
AreCodes {A} keyed rows codes n =
    (length codes ≡ n) × ((k : ℕ) (d : A) → k < n → (bytes : List ℕ) × (keyed (get_or rows k d) ≡ Some bytes) × (get_or codes k 0 ≡ code (key_of bytes) k))

pub codes_more : {A : Type 0} (keyed : A → Option (List ℕ)) (rows : List A) (codes : List ℕ) (n : ℕ) (row : A) (bytes : List ℕ) → n < length rows → row ≡ get_or rows n row → keyed row ≡ Some bytes
    → AreCodes keyed rows codes n → AreCodes keyed rows (codes ++ code (key_of bytes) n ∷ []) (n + 1)
codes_more {A} keyed rows codes n row bytes lt at here before = (simp length-append (omega (arith, before.0)), λ k d l. split k d (side k n) l)
  where
    split : (k : ℕ) (d : A) → (k < n) ⊎ (n ≤ k) → k < n + 1 → (own : List ℕ) × (keyed (get_or rows k d) ≡ Some own) × (get_or (codes ++ code (key_of bytes) n ∷ []) k 0 ≡ code (key_of own) k)
    split k d (inl low) l =
        let held = before.1 k d low in
        (held.0, held.1, get_or_append_left codes (code (key_of bytes) n ∷ []) 0 k (omega (arith, before.0)) ∙ held.2)
    split k d (inr high) l =
        let same : n ≡ k = omega arith in
        let row_here : row ≡ get_or rows n d = at ∙ same_default rows n row d lt in
        (bytes, subst (λ (i : ℕ). keyed (get_or rows i d) ≡ Some bytes) same (subst (λ r. keyed r ≡ Some bytes) row_here here), subst (λ (i : ℕ). get_or (codes ++ code (key_of bytes) n ∷ []) i 0 ≡ code (key_of bytes) i) same (subst (λ (i : ℕ). get_or (codes ++ code (key_of bytes) n ∷ []) i 0 ≡ code (key_of bytes) n) before.0 (get_or-append_seam codes (code (key_of bytes) n) [] 0)))

-- rows are no more than keys have places, and their codes were put in order
pub indexed : {A : Type 0} (keyed : A → Option (List ℕ)) (rows : List A) (codes sorted : List ℕ) → length rows ≤ 4294967296 → AreCodes keyed rows codes (length rows) → IsPermutation codes sorted → IsNonDecreasing sorted → IsIndexOf keyed rows sorted
indexed {A} keyed rows codes sorted few own moved rise = record { few = few; rise = rise; holds = λ k d lt. held k d lt (own.1 k d lt) }
  where
    held : (k : ℕ) (d : A) → k < length rows → (bytes : List ℕ) × (keyed (get_or rows k d) ≡ Some bytes) × (get_or codes k 0 ≡ code (key_of bytes) k) → (bytes : List ℕ) × (keyed (get_or rows k d) ≡ Some bytes) × Contains sorted (code (key_of bytes) k)
    held k d lt h =
        let within : k < length codes = omega (arith, own.0) in
        (h.0, h.1, Contains-permutation codes sorted (code (key_of h.0) k) moved (k, within, same_default codes k (code (key_of h.0) k) 0 within ∙ h.2))
