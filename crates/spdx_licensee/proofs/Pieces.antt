-- The numbers of a version, one after another.
use Rattle.std.proofs.Common.{◌≡◌, ℕ, zero, suc, ◌+◌, ◌<◌, ◌≤◌, Bool, true, false, List, [], ◌∷◌, length, take, drop, map, refl, sym, ap, ◌∙◌, arith, inl, inr, get_or, ◌⊎◌, ◌-◌, length-drop, nat_lt, Some, None, Option, find}
use Rattle.std.proofs.lemmas.Bool.{cases_lt}
use Rattle.std.proofs.lemmas.List.{take_all, drop_all}
use Rattle.std.specs.declared.cmp.Ordering.{Ordering}
use Rattle.std.proofs.lemmas.List.Splits.{slice_split_first, slice_split_none}
use Rattle.std.proofs.lemmas.List.Sums.{fails_before_first}
use Rattle.std.specs.Borrow.{Bor}
use Rattle.std.specs.Option.{option_copied, IfSome}
use Rattle.std.specs.Char.{is_ascii_digit}
use Rattle.std.specs.List.{list_all, slice_split, before_first, after_first, position, position_or_len}
use Rattle.std.specs.Str.Parse.{digits_value}
use Rattle.std.specs.Ordering.{nat_cmp, ordering_then, is_lt}
use Rattle.spdx_requirement.specs.Versions.{is_version, version, parts}
use Rattle.spdx_licensee.proofs.Marks.{is_dot, is_version_byte}
use Rattle.spdx_licensee.specs.Version.{numbers, older}
use Rattle.spdx_licensee.proofs.Digits.{first_passes, rest_passes, both_pass}
use Rattle.spdx_licensee.proofs.Padding.{extended_cmp, is_less_extended, zero_left, zero_right}

-- ---- what passes of a version passes of its pieces

pub all_dropped : {X : Type 0} (p : X → Bool) (n : ℕ) (xs : List X) → list_all p xs ≡ true → list_all p (drop n xs) ≡ true
all_dropped p zero xs h = h
all_dropped p (suc n) [] h = refl
all_dropped p (suc n) (x ∷ xs) h = all_dropped p n xs (rest_passes p x xs h)

digits_taken : (n : ℕ) (v : List ℕ) → is_version v ≡ true → n ≤ position_or_len is_dot v → list_all is_ascii_digit (take n v) ≡ true
digits_taken zero v h le = refl
digits_taken (suc n) [] h le = refl
digits_taken (suc n) (b ∷ v) h le = go (is_dot b) refl (digits_taken n v (rest_passes is_version_byte b v h))
  where
    go : (dot : Bool) → is_dot b ≡ dot → (n ≤ position_or_len is_dot v → list_all is_ascii_digit (take n v) ≡ true) → list_all is_ascii_digit (b ∷ take n v) ≡ true
    go true e deeper = absurd (omega (arith, rw e at le))
    go false e deeper = both_pass is_ascii_digit b (take n v) (grind (arith, first_passes is_version_byte b v h)) (deeper (omega (arith, rw e at le)))

pub front_digits : (v : List ℕ) → is_version v ≡ true → list_all is_ascii_digit (before_first is_dot v) ≡ true
front_digits v h = digits_taken (position_or_len is_dot v) v h (omega arith)

pub rest_version : (v : List ℕ) → is_version v ≡ true → is_version (after_first is_dot v) ≡ true
rest_version v h = all_dropped is_version_byte (position_or_len is_dot v + 1) v h

-- ---- the first number

abbrev first_number : List ℕ → ℕ
first_number v = digits_value 10 (before_first is_dot v)

none_passes : (v : List ℕ) → length v ≤ position_or_len is_dot v → (k : ℕ) (d : ℕ) → k < length v → is_dot (get_or v k d) ≡ false
none_passes v ge k d lt = fails_before_first is_dot v k d (omega arith)

-- the first number stands before those of the rest; where no dot stands, a zero is put behind it
numbers_of : (v : List ℕ) → (numbers v ≡ first_number v ∷ numbers (after_first is_dot v)) ⊎ ((numbers v ≡ first_number v ∷ []) × (numbers (after_first is_dot v) ≡ 0 ∷ []))
numbers_of v = elim (cases_lt (position_or_len is_dot v) (length v)) [
  | inl lt ↦ inl (ap (map (digits_value 10)) (slice_split_first is_dot v 0 lt))
  | inr ge ↦
      let front : before_first is_dot v ≡ v = take_all (position_or_len is_dot v) v ge in
      let behind : after_first is_dot v ≡ [] = drop_all (position_or_len is_dot v + 1) v (omega arith) in
      inr (
        ap (map (digits_value 10)) (slice_split_none is_dot v (none_passes v ge)) ∙ ap (λ (n : List ℕ). digits_value 10 n ∷ []) (sym front),
        ap numbers behind,
      )
]

left_numbers : (v : List ℕ) (ys : List ℕ) → extended_cmp (numbers v) ys ≡ extended_cmp (first_number v ∷ numbers (after_first is_dot v)) ys
left_numbers v ys = elim (numbers_of v) [
  | inl e ↦ ap (λ (xs : List ℕ). extended_cmp xs ys) e
  | inr e ↦ ap (λ (xs : List ℕ). extended_cmp xs ys) e.0 ∙ zero_left (first_number v) ys ∙ ap (λ (xs : List ℕ). extended_cmp (first_number v ∷ xs) ys) (sym e.1)
]

right_numbers : (xs : List ℕ) (v : List ℕ) → extended_cmp xs (numbers v) ≡ extended_cmp xs (first_number v ∷ numbers (after_first is_dot v))
right_numbers xs v = elim (numbers_of v) [
  | inl e ↦ ap (extended_cmp xs) e
  | inr e ↦ ap (extended_cmp xs) e.0 ∙ zero_right xs (first_number v) ∙ ap (λ (ys : List ℕ). extended_cmp xs (first_number v ∷ ys)) (sym e.1)
]

-- what the first numbers say, and else those of the rest
pub older_by_first : (a b x y : List ℕ) (o : Ordering) → x ≡ before_first is_dot a → y ≡ before_first is_dot b → o ≡ nat_cmp (digits_value 10 x) (digits_value 10 y)
    → older a b ≡ is_lt (ordering_then o (extended_cmp (numbers (after_first is_dot a)) (numbers (after_first is_dot b))))
older_by_first a b x y o ex ey eo =
    let first : nat_cmp (first_number a) (first_number b) ≡ o = ap (λ (v : List ℕ). nat_cmp (digits_value 10 v) (first_number b)) (sym ex) ∙ ap (λ (v : List ℕ). nat_cmp (digits_value 10 x) (digits_value 10 v)) (sym ey) ∙ sym eo in
    is_less_extended (numbers a) (numbers b)
    ∙ ap is_lt (left_numbers a (numbers b) ∙ right_numbers (first_number a ∷ numbers (after_first is_dot a)) b)
    ∙ ap (λ (r : Ordering). is_lt (ordering_then r (extended_cmp (numbers (after_first is_dot a)) (numbers (after_first is_dot b))))) first

pub older_by_rest : (a b : List ℕ) → older a b ≡ is_lt (extended_cmp (numbers a) (numbers b))
older_by_rest a b = is_less_extended (numbers a) (numbers b)

-- ---- where a test passes first

place_is : (p : ℕ → Bool) (t : List ℕ) (i : ℕ) → Some i ≡ position p t → (position_or_len p t ≡ i) × (i < length t)
place_is p t i h = go (nat_lt (position_or_len p t) (length t)) refl
  where
    go : (within : Bool) → nat_lt (position_or_len p t) (length t) ≡ within → (position_or_len p t ≡ i) × (i < length t)
    go true e =
        let same : Some (position_or_len p t) ≡ Some i = sym (h ∙ rw e refl) in
        let place : position_or_len p t ≡ i = cc same in
        (place, grind (arith, e, place))
    go false e = let none : Some i ≡ None = h ∙ rw e refl in cc none

pub split_found : (p : ℕ → Bool) (t : List ℕ) (i : ℕ) → Some i ≡ position p t
    → slice_split p t ≡ take i t ∷ slice_split p (take (length t - (i + 1)) (drop (i + 1) t))
split_found p t i h =
    let place = place_is p t i h in
    let whole : take (length t - (i + 1)) (drop (i + 1) t) ≡ drop (i + 1) t = take_all (length t - (i + 1)) (drop (i + 1) t) (omega (arith, length-drop (i + 1) t)) in
    let within : position_or_len p t < length t = omega (arith, place.0, place.1) in
    rw (whole, ← place.0) (slice_split_first p t 0 within)

pub split_absent : (p : ℕ → Bool) (t : List ℕ) → None ≡ position p t → slice_split p t ≡ t ∷ []
split_absent p t h = go (nat_lt (position_or_len p t) (length t)) refl
  where
    go : (within : Bool) → nat_lt (position_or_len p t) (length t) ≡ within → slice_split p t ≡ t ∷ []
    go true e = let none : None ≡ Some (position_or_len p t) = h ∙ rw e refl in cc none
    go false e =
        let ge : length t ≤ position_or_len p t = grind (arith, e) in
        slice_split_none p t (λ k d lt. fails_before_first p t k d (omega arith))

-- ---- the version of a name

found_passes : {X : Type 0} (p : X → Bool) (xs : List X) (x : X) → find p xs ≡ Some x → p x ≡ true
found_passes {X} p [] x h = let none : ◌≡◌ {A = Option X} None (Some x) = h in cc none
found_passes {X} p (y ∷ ys) x h = go (p y) refl (found_passes p ys x)
  where
    go : (passes : Bool) → p y ≡ passes → (find p ys ≡ Some x → p x ≡ true) → p x ≡ true
    go true e deeper =
        let here : Some y ≡ Some x = rw e at h in
        let same : y ≡ x = cc here in
        rw same at e
    go false e deeper = deeper (rw e at h)

pub version_passes : (name : List ℕ) (part : Option (Bor (List ℕ))) → option_copied part ≡ version name → IfSome part (λ v. is_version v.now ≡ true)
version_passes name None h = tt
version_passes name (Some v) h = found_passes is_version (parts name) v.now (sym h)
