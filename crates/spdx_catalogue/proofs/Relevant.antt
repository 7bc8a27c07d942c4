-- Rows that fit what is looked for have its key.
use Rattle.std.proofs.Common.{◌≡◌, ℕ, zero, suc, ◌+◌, ◌-◌, ◌*◌, ◌/◌, ◌%◌, ◌^◌, ◌≤◌, Bool, true, false, cond, List, [], ◌∷◌, length, take, map, Some, None, refl, sym, ◌∙◌, ap, arith, nat_eq, nat_lt, ⊎_elim}
use Rattle.std.specs.Borrow.{Bor}
use Rattle.std.specs.List.{fold}
use Rattle.std.specs.Char.{to_ascii_lowercase}
use Rattle.std.proofs.lemmas.List.{take-take, take-map, length-map}
use Rattle.std.proofs.lemmas.List.Folds.{fold-map}
use Rattle.std.proofs.lemmas.Bool.{agree_below_at, cases_lt, eqb-true}
use Rattle.std.proofs.lemmas.Bool.Decides.{nat_tests}
use Rattle.std.proofs.lemmas.Str.Ascii.{lowercase_is}
use Rattle.std.specs.Int.Bits.{bit_or}
use Rattle.spdx_catalogue.specs.Index.{set_case, mixed, set_at, eight_at, sum_of_ends, key_of, whole_front, IsRelevant}
use Rattle.spdx_catalogue.specs.declared.index.Sought.TheVariants.{Named, Alike, Front}
use Rattle.spdx_catalogue.proofs.Caseless.{bytes_same}

-- a small letter and its capital are the same in a key; up to `Z` by computing
set_lowered : (b : ℕ) → set_case (to_ascii_lowercase b) ≡ set_case b
set_lowered b = ⊎_elim
    (λ under. eqb-true _ _ (agree_below_at (λ k. nat_eq (bit_or (to_ascii_lowercase k) 32) (bit_or k 32)) (λ k. true) 91 b refl under))
    (λ over. ap (λ k. bit_or k 32) ((lowercase_is b).2 (omega arith)))
    (cases_lt b 91)

-- the case of ASCII letters does not count in a sum of all bytes
all_lowered : (bytes : List ℕ) → fold mixed 0 (map to_ascii_lowercase bytes) ≡ fold mixed 0 bytes
all_lowered bytes = fold-map mixed to_ascii_lowercase 0 bytes ∙ same 0 bytes
  where
    same : (sum : ℕ) (bs : List ℕ) → fold (λ k b. mixed k (to_ascii_lowercase b)) sum bs ≡ fold mixed sum bs
    same sum [] = refl
    same sum (b ∷ bs) = ap (λ k. fold (λ k b. mixed k (to_ascii_lowercase b)) k bs) (ap (λ t. ((sum * 9) % 2 ^ 64 + t) % 2 ^ 64) (set_lowered b)) ∙ same (mixed sum b) bs

-- nor does it in a byte
set_at_lowered : (bytes : List ℕ) (at : ℕ) → set_at (map to_ascii_lowercase bytes) at ≡ set_at bytes at
set_at_lowered [] at = refl
set_at_lowered (b ∷ bytes) zero = set_lowered b
set_at_lowered (b ∷ bytes) (suc at) = set_at_lowered bytes at

-- nor in eight bytes
eight_lowered : (bytes : List ℕ) (at : ℕ) → eight_at (map to_ascii_lowercase bytes) at ≡ eight_at bytes at
eight_lowered bytes at =
    rw (
      set_at_lowered bytes at,
      set_at_lowered bytes (at + 1),
      set_at_lowered bytes (at + 2),
      set_at_lowered bytes (at + 3),
      set_at_lowered bytes (at + 4),
      set_at_lowered bytes (at + 5),
      set_at_lowered bytes (at + 6),
      set_at_lowered bytes (at + 7),
    ) refl

ends_lowered : (bytes : List ℕ) → sum_of_ends (map to_ascii_lowercase bytes) ≡ sum_of_ends bytes
ends_lowered bytes = rw (length-map bytes to_ascii_lowercase, eight_lowered bytes 0, eight_lowered bytes (length bytes - 8)) refl

abbrev key_by : Bool → ℕ → ℕ → ℕ
key_by is_short all ends = (cond is_short all ends * 11400714819323198485) % 2 ^ 64 / 2 ^ 32

-- so it does not count in a key
key_lowered : (bytes : List ℕ) → key_of (map to_ascii_lowercase bytes) ≡ key_of bytes
key_lowered bytes =
    let low : List ℕ = map to_ascii_lowercase bytes in
    ap (λ (n : ℕ). key_by (nat_lt n 8) (fold mixed 0 low) (sum_of_ends low)) (length-map bytes to_ascii_lowercase)
    ∙ ap (λ (k : ℕ). key_by (nat_lt (length bytes) 8) k (sum_of_ends low)) (all_lowered bytes)
    ∙ ap (key_by (nat_lt (length bytes) 8) (fold mixed 0 bytes)) (ends_lowered bytes)

alike_keys : (xs ys : List ℕ) → map to_ascii_lowercase xs ≡ map to_ascii_lowercase ys → key_of xs ≡ key_of ys
alike_keys xs ys e = sym (key_lowered xs) ∙ ap key_of e ∙ key_lowered ys

module _ {A : Type 0} (text : A → List ℕ) where
  pub named_relevant : (name : Bor (List ℕ)) → IsRelevant (λ r. Some (text r)) text (Named name)
  named_relevant name r bytes fit e =
      let same : text r ≡ bytes = cc in
      ap key_of (sym same ∙ bytes_same (text r) name.now fit)

  pub alike_relevant : (name : Bor (List ℕ)) → IsRelevant (λ r. Some (text r)) text (Alike name)
  alike_relevant name r bytes fit e =
      let same : text r ≡ bytes = cc in
      ap key_of (sym same) ∙ alike_keys (text r) name.now (bytes_same (map to_ascii_lowercase (text r)) (map to_ascii_lowercase name.now) fit)

  whole : (prefix bytes : List ℕ) → whole_front prefix ≡ Some bytes → (3 ≤ length prefix) × (take 3 prefix ≡ bytes)
  whole prefix bytes e = pick (nat_lt (length prefix) 3) refl e
    where
      pick : (b : Bool) → nat_lt (length prefix) 3 ≡ b → cond b None (Some (take 3 prefix)) ≡ Some bytes → (3 ≤ length prefix) × (take 3 prefix ≡ bytes)
      pick true t g = absurd cc
      pick false t g = (grind (arith, nat_tests), cc)

  pub front_relevant : (begun : Bor (List ℕ)) → IsRelevant (λ r. whole_front (text r)) text (Front begun)
  front_relevant begun r bytes fit e =
      let prefix = text r in
      let front = whole prefix bytes e in
      let f = to_ascii_lowercase in
      let same : map f prefix ≡ map f (take (length prefix) begun.now) = bytes_same (map f prefix) (map f (take (length prefix) begun.now)) fit in
      let cut : take 3 (take (length prefix) begun.now) ≡ take 3 begun.now = take-take 3 (length prefix) begun.now front.0 in
      let lowered : map f (take 3 prefix) ≡ map f (take 3 begun.now) = sym (take-map f 3 prefix) ∙ ap (take 3) same ∙ take-map f 3 (take (length prefix) begun.now) ∙ ap (map f) cut in
      ap key_of (sym front.1) ∙ alike_keys (take 3 prefix) (take 3 begun.now) lowered
