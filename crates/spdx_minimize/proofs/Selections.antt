-- The first sufficient selection is the least one.
use Rattle.std.proofs.Common.{◌≡◌, ◌≢◌, ℕ, zero, suc, Bool, true, false, ◌||◌, cond, List, [], ◌∷◌, length, ◌⊎◌, Option, Some, None, option_map, refl, sym, ◌∙◌, ap, subst, inl, inr, arith}
use Rattle.std.specs.List.{find}
use Rattle.selections.specs.Selection.{LeavesOutLast, IsLeast, NoneSuffices}
use Rattle.selections.proofs.Only.{only_least}
use Rattle.spdx_minimize.specs.Choice.{without_and_with, selections, least_of}

-- whether a selection of the members behind the first suffices, without or with the first
abbrev either_way : (List Bool → Bool) → List Bool → Bool
either_way suffices s = suffices (false ∷ s) || suffices (true ∷ s)

-- without the first member, if that suffices
abbrev with_least : (List Bool → Bool) → List Bool → List Bool
with_least suffices s = cond (suffices (false ∷ s)) (false ∷ s) (true ∷ s)

found_either : (suffices : List Bool → Bool) (ss : List (List Bool)) → find suffices (without_and_with ss) ≡ option_map (with_least suffices) (find (either_way suffices) ss)
found_either suffices [] = refl
found_either suffices (s ∷ ss) =
    let Goal : Type 0 = find suffices (without_and_with (s ∷ ss)) ≡ option_map (with_least suffices) (find (either_way suffices) (s ∷ ss)) in
    elim (suffices (false ∷ s)) as (λ (b : Bool). suffices (false ∷ s) ≡ b → Goal) [
      | true ↦ λ e. rw e rw e refl
      | false ↦ λ e. elim (suffices (true ∷ s)) as (λ (b : Bool). suffices (true ∷ s) ≡ b → Goal) [
        | true ↦ λ f. rw (e, f) rw e refl
        | false ↦ λ f. rw (e, f) (found_either suffices ss)
      ] refl
    ] refl

same_or_not : (xs ys : List Bool) → (xs ≡ ys) ⊎ (xs ≢ ys)
same_or_not [] [] = inl refl
same_or_not [] (y ∷ ys) = inr (λ e. cc)
same_or_not (x ∷ xs) [] = inr (λ e. cc)
same_or_not (true ∷ xs) (false ∷ ys) = inr (λ e. cc)
same_or_not (false ∷ xs) (true ∷ ys) = inr (λ e. cc)
same_or_not (true ∷ xs) (true ∷ ys) = elim (same_or_not xs ys) [ inl e ↦ inl cc | inr n ↦ inr (λ e. n cc) ]
same_or_not (false ∷ xs) (false ∷ ys) = elim (same_or_not xs ys) [ inl e ↦ inl cc | inr n ↦ inr (λ e. n cc) ]

-- what was found is the least, and where nothing was found nothing suffices
abbrev Finds : (List Bool → Bool) → ℕ → Option (List Bool) → Type 0
Finds suffices n None = NoneSuffices suffices n
Finds suffices n (Some s) = IsLeast suffices n s

further : (a b : Bool) (back tail : List Bool) → LeavesOutLast back tail → LeavesOutLast (a ∷ back) (b ∷ tail)
further a b back tail (front, others, rest, e, p, q) =
    (a ∷ front, b ∷ others, rest, ap suc e, ap (λ (z : List Bool). a ∷ z) p, ap (λ (z : List Bool). b ∷ z) q)

-- the selection c ∷ s against another one that differs in the first member alone
first_differs : (suffices : List Bool → Bool) (s : List Bool) (c b : Bool) → (c ≡ true → suffices (false ∷ s) ≡ false) → suffices (b ∷ s) ≡ true → b ∷ s ≢ c ∷ s → LeavesOutLast (c ∷ s) (b ∷ s)
first_differs suffices s true true only h ne = absurd (ne refl)
first_differs suffices s false false only h ne = absurd (ne refl)
first_differs suffices s false true only h ne = ([], [], s, refl, refl, refl)
first_differs suffices s true false only h ne = let bad : true ≡ false = sym h ∙ only refl in cc

either_true : (suffices : List Bool → Bool) (b : Bool) (s : List Bool) → suffices (b ∷ s) ≡ true → either_way suffices s ≡ true
either_true suffices false s h = rw h refl
either_true suffices true s h = elim (suffices (false ∷ s)) as (λ (z : Bool). (z || suffices (true ∷ s)) ≡ true) [ true ↦ refl | false ↦ h ]

with_first : (suffices : List Bool → Bool) (n : ℕ) (s : List Bool) (c : Bool) → IsLeast (either_way suffices) n s → suffices (c ∷ s) ≡ true → (c ≡ true → suffices (false ∷ s) ≡ false) → IsLeast suffices (suc n) (c ∷ s)
with_first suffices n s c l h only = record {
  each_member = ap suc l.each_member;
  sufficient = h;
  leaves_out = λ other e f ne. elim other as (λ (o : List Bool). length o ≡ suc n → suffices o ≡ true → o ≢ c ∷ s → LeavesOutLast (c ∷ s) o) [
    | [] ↦ λ e f ne. absurd (omega arith)
    | b ∷ o ↦ λ e f ne. elim (same_or_not o s) [
      | inl same ↦
          let there : suffices (b ∷ s) ≡ true = subst (λ (z : List Bool). suffices (b ∷ z) ≡ true) same f in
          let apart : b ∷ s ≢ c ∷ s = λ k. ne (ap (λ (z : List Bool). b ∷ z) same ∙ k) in
          subst (λ (z : List Bool). LeavesOutLast (c ∷ s) (b ∷ z)) (sym same) (first_differs suffices s c b only there apart)
      | inr apart ↦ further c b s o (l.leaves_out o (omega arith) (either_true suffices b o f) apart)
    ]
  ] e f ne;
}

one_more_first : (suffices : List Bool → Bool) (n : ℕ) (o : Option (List Bool)) → Finds (either_way suffices) n o → Finds suffices (suc n) (option_map (with_least suffices) o)
one_more_first suffices n None none = λ some e. elim some as (λ (z : List Bool). length z ≡ suc n → suffices z ≡ false) [
  | [] ↦ λ e. absurd (omega arith)
  | b ∷ o ↦ λ e. elim (suffices (b ∷ o)) as (λ (z : Bool). suffices (b ∷ o) ≡ z → z ≡ false) [
    | true ↦ λ k. let bad : true ≡ false = sym (either_true suffices b o k) ∙ none o (omega arith) in cc
    | false ↦ λ k. refl
  ] refl
] e
one_more_first suffices n (Some s) l =
    elim (suffices (false ∷ s)) as (λ (b : Bool). suffices (false ∷ s) ≡ b → IsLeast suffices (suc n) (with_least suffices s)) [
      | true ↦ λ e. rw e (with_first suffices n s false l e (λ bad. absurd cc))
      | false ↦ λ e.
          let there : suffices (true ∷ s) ≡ true = sym (ap (λ (z : Bool). z || suffices (true ∷ s)) e) ∙ l.sufficient in
          rw e (with_first suffices n s true l there (λ k. e))
    ] refl

finds : (suffices : List Bool → Bool) (n : ℕ) → Finds suffices n (least_of suffices n)
finds suffices zero =
    elim (suffices []) as (λ (b : Bool). suffices [] ≡ b → Finds suffices 0 (cond b (Some []) None)) [
      | true ↦ λ e. record {
        each_member = refl;
        sufficient = e;
        leaves_out = λ other k f ne. elim other as (λ (o : List Bool). length o ≡ 0 → o ≢ [] → LeavesOutLast [] o) [
          | [] ↦ λ k ne. absurd (ne refl)
          | b ∷ o ↦ λ k ne. absurd (omega arith)
        ] k ne;
      }
      | false ↦ λ e. λ some k. elim some as (λ (o : List Bool). length o ≡ 0 → suffices o ≡ false) [
        | [] ↦ λ k. e
        | b ∷ o ↦ λ k. absurd (omega arith)
      ] k
    ] refl
finds suffices (suc n) =
    subst (λ (o : Option (List Bool)). Finds suffices (suc n) o) (sym (found_either suffices (selections n))) (one_more_first suffices n (least_of (either_way suffices) n) (finds (either_way suffices) n))

-- what is found is the least selection
pub least_of-IsLeast : (suffices : List Bool → Bool) (n : ℕ) (s : List Bool) → least_of suffices n ≡ Some s → IsLeast suffices n s
least_of-IsLeast suffices n s e = subst (λ (o : Option (List Bool)). Finds suffices n o) e (finds suffices n)

-- and the least selection is found
pub IsLeast-least_of : (suffices : List Bool → Bool) (n : ℕ) (s : List Bool) → IsLeast suffices n s → least_of suffices n ≡ Some s
IsLeast-least_of suffices n s l =
    elim (least_of suffices n) as (λ (o : Option (List Bool)). Finds suffices n o → o ≡ Some s) [
      | None ↦ λ none. let bad : true ≡ false = sym l.sufficient ∙ none s l.each_member in cc
      | Some other ↦ λ m. ap Some (only_least suffices n s l other m)
    ] (finds suffices n)

-- nothing is found exactly where nothing suffices
pub none_found : (suffices : List Bool → Bool) (n : ℕ) → NoneSuffices suffices n → least_of suffices n ≡ None
none_found suffices n none =
    elim (least_of suffices n) as (λ (o : Option (List Bool)). Finds suffices n o → o ≡ None) [
      | None ↦ λ m. refl
      | Some other ↦ λ m. let bad : true ≡ false = sym m.sufficient ∙ none other m.each_member in cc
    ] (finds suffices n)
