-- The least selection is the only one, and needs each of its members.
use Rattle.std.proofs.Common.{◌≡◌, ◌≢◌, ℕ, zero, suc, Bool, true, false, List, [], ◌∷◌, ◌++◌, length, ◌⊎◌, refl, sym, ◌∙◌, subst, inl, inr, arith}
use Rattle.selections.specs.Selection.{IsWithin, IsLeast, IsOnlyLeast, NeedsEach, NoneSuffices, everything}

same_or_not : (xs ys : List Bool) → (xs ≡ ys) ⊎ (xs ≢ ys)
same_or_not [] [] = inl refl
same_or_not [] (y ∷ ys) = inr (λ e. cc)
same_or_not (x ∷ xs) [] = inr (λ e. cc)
same_or_not (true ∷ xs) (false ∷ ys) = inr (λ e. cc)
same_or_not (false ∷ xs) (true ∷ ys) = inr (λ e. cc)
same_or_not (true ∷ xs) (true ∷ ys) = elim (same_or_not xs ys) [ inl e ↦ inl cc | inr n ↦ inr (λ e. n cc) ]
same_or_not (false ∷ xs) (false ∷ ys) = elim (same_or_not xs ys) [ inl e ↦ inl cc | inr n ↦ inr (λ e. n cc) ]

-- one place holds one truth
one_truth : (xs ys back rest : List Bool) → length xs ≡ length ys → xs ++ false ∷ back ≡ ys ++ true ∷ rest → ⊥
one_truth [] [] back rest e h = cc
one_truth [] (y ∷ ys) back rest e h = absurd (omega arith)
one_truth (x ∷ xs) [] back rest e h = absurd (omega arith)
one_truth (x ∷ xs) (y ∷ ys) back rest e h = let p : xs ++ false ∷ back ≡ ys ++ true ∷ rest = cc in one_truth xs ys back rest (omega arith) p

-- not both of two selections leave out the last member on which they differ
not_both : (front others back front2 others2 back2 : List Bool) → length front ≡ length others → length front2 ≡ length others2
    → front ++ false ∷ back ≡ others2 ++ true ∷ back2 → others ++ true ∷ back ≡ front2 ++ false ∷ back2 → ⊥
not_both [] [] back [] [] back2 e f h k = cc
not_both [] [] back [] (o ∷ os) back2 e f h k = absurd (omega arith)
not_both [] [] back (x ∷ xs) [] back2 e f h k = absurd (omega arith)
not_both [] [] back (x ∷ xs) (o ∷ os) back2 e f h k =
    let p : back ≡ os ++ true ∷ back2 = cc in
    let q : back ≡ xs ++ false ∷ back2 = cc in
    one_truth xs os back2 back2 (omega arith) (sym q ∙ p)
not_both [] (o ∷ os) back xs ys back2 e f h k = absurd (omega arith)
not_both (x ∷ xs) [] back ys zs back2 e f h k = absurd (omega arith)
not_both (x ∷ xs) (y ∷ ys) back [] [] back2 e f h k =
    let p : xs ++ false ∷ back ≡ back2 = cc in
    let q : ys ++ true ∷ back ≡ back2 = cc in
    one_truth xs ys back back (omega arith) (p ∙ sym q)
not_both (x ∷ xs) (y ∷ ys) back [] (o ∷ os) back2 e f h k = absurd (omega arith)
not_both (x ∷ xs) (y ∷ ys) back (a ∷ as1) [] back2 e f h k = absurd (omega arith)
not_both (x ∷ xs) (y ∷ ys) back (a ∷ bs) (o ∷ os) back2 e f h k =
    let p : xs ++ false ∷ back ≡ os ++ true ∷ back2 = cc in
    let q : ys ++ true ∷ back ≡ bs ++ false ∷ back2 = cc in
    not_both xs ys back bs os back2 (omega arith) (omega arith) p q

pub only_least : (suffices : List Bool → Bool) (n : ℕ) (chosen : List Bool) → IsLeast suffices n chosen → IsOnlyLeast suffices n chosen
only_least suffices n chosen l other m =
    elim (same_or_not other chosen) [
      | inl e ↦ e
      | inr ne ↦
          let a = l.leaves_out other m.each_member m.sufficient ne in
          let b = m.leaves_out chosen l.each_member l.sufficient (λ e. ne (sym e)) in
          absurd (not_both a.0 a.1 a.2 b.0 b.1 b.2 a.3 b.3 (sym a.4 ∙ b.5) (sym a.5 ∙ b.4))
    ]

length-within : (xs ys : List Bool) → IsWithin xs ys → length xs ≡ length ys
length-within [] [] h = refl
length-within (x ∷ xs) (y ∷ ys) h = let e = length-within xs ys h.1 in omega arith
length-within [] (y ∷ ys) h = absurd h
length-within (x ∷ xs) [] h = absurd h

not_within : (front others back rest : List Bool) → length front ≡ length others → IsWithin (others ++ true ∷ back) (front ++ false ∷ rest) → ⊥
not_within [] [] back rest e h = let bad : false ≡ true = h.0 refl in cc
not_within [] (o ∷ os) back rest e h = absurd (omega arith)
not_within (x ∷ xs) [] back rest e h = absurd (omega arith)
not_within (x ∷ xs) (o ∷ os) back rest e h = not_within xs os back rest (omega arith) h.1

pub needs_each : (suffices : List Bool → Bool) (n : ℕ) (chosen : List Bool) → IsLeast suffices n chosen → NeedsEach suffices chosen
needs_each suffices n chosen l fewer h k =
    elim (same_or_not fewer chosen) [
      | inl e ↦ e
      | inr ne ↦
          let a = l.leaves_out fewer (length-within fewer chosen h ∙ l.each_member) k ne in
          let moved = subst (λ (z : List Bool). IsWithin z chosen) a.5 h in
          absurd (not_within a.0 a.1 a.2 a.2 a.3 (subst (λ (z : List Bool). IsWithin (a.1 ++ true ∷ a.2) z) a.4 moved))
    ]

within_all : (xs : List Bool) (n : ℕ) → length xs ≡ n → IsWithin xs (everything n)
within_all [] zero e = tt
within_all [] (suc n) e = absurd (omega arith)
within_all (x ∷ xs) zero e = absurd (omega arith)
within_all (x ∷ xs) (suc n) e = ((λ h. refl), within_all xs n (omega arith))

pub none_suffices : (suffices : List Bool → Bool) (n : ℕ)
    → ((some more : List Bool) → length some ≡ n → IsWithin some more → suffices some ≡ true → suffices more ≡ true)
    → suffices (everything n) ≡ false → NoneSuffices suffices n
none_suffices suffices n grows h some e =
    elim (suffices some) as (λ (b : Bool). suffices some ≡ b → b ≡ false) [
      | true ↦ λ k. let bad : true ≡ false = sym (grows some (everything n) e (within_all some n e) k) ∙ h in cc
      | false ↦ λ k. refl
    ] refl
