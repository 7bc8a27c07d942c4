-- How many frames there are.
use Rattle.std.proofs.Common.{◌≡◌, ℕ, ◌+◌, ◌<◌, ◌≤◌, List, [], ◌∷◌, ◌++◌, length, get_or, take, drop, reverse, ◌⊎◌, inl, inr, true, false, refl, sym, ◌∙◌, ap, arith, length-append}
use Rattle.std.specs.Prelude.{◌==◌}
use Rattle.std.specs.List.{flat_map}
use Rattle.std.proofs.lemmas.List.{reverse-append, length-replicate, take-append-drop, take_more}
use Rattle.std.proofs.lemmas.Bool.Decides.{eqb_tells}
use Rattle.spdx_parser.specs.declared.frames.Run.{Run}
use Rattle.spdx_parser.specs.declared.frames.Frame.{Frame}
use Rattle.spdx_parser.specs.Frames.{empty_frame, empty_frames, frames_of, frames_in}

count_on : (xs ys : List Run) → length (flat_map frames_of (xs ++ ys)) ≡ length (flat_map frames_of xs) + length (flat_map frames_of ys)
count_on [] ys = omega arith
count_on (x ∷ xs) ys =
    let more = count_on xs ys in
    omega (arith, length-append (frames_of x) (flat_map frames_of (xs ++ ys)), length-append (frames_of x) (flat_map frames_of xs))

both : (xs ys : List Run) → length (frames_in (xs ++ ys)) ≡ length (frames_in xs) + length (frames_in ys)
both xs ys = let flat = ap (λ rs. length (flat_map frames_of rs)) (reverse-append xs ys) ∙ count_on (reverse ys) (reverse xs) in omega arith

one : (r : Run) → length (frames_in (r ∷ [])) ≡ r.around + 1
one r = omega (arith, length-append (frames_of r) [], length-replicate r.around empty_frame)

-- one run more
pub counts_more : (runs : List Run) (r : Run) → length (frames_in (runs ++ r ∷ [])) ≡ length (frames_in runs) + (r.around + 1)
counts_more runs r = omega (arith, both runs (r ∷ []), one r)

-- a front has no more
pub counts_front : (i : ℕ) (runs : List Run) → length (frames_in (take i runs)) ≤ length (frames_in runs)
counts_front i runs = omega (arith, both (take i runs) (drop i runs), ap (λ rs. length (frames_in rs)) (take-append-drop i runs))

-- ---- tests for none

pub is_zero : (n : ℕ) → (n == 0) ≡ true → n ≡ 0
is_zero n e = go (eqb_tells n 0)
  where
    go : ((n == 0) ≡ true) × (n ≡ 0) ⊎ ((n == 0) ≡ false) × (n ≡ 0 → ⊥) → n ≡ 0
    go (inl x) = x.1
    go (inr x) = let same : true ≡ false = sym e ∙ x.0 in absurd cc

pub not_zero : (n : ℕ) → (n == 0) ≡ false → 0 < n
not_zero n e = go (eqb_tells n 0)
  where
    go : ((n == 0) ≡ true) × (n ≡ 0) ⊎ ((n == 0) ≡ false) × (n ≡ 0 → ⊥) → 0 < n
    go (inl x) = let same : true ≡ false = sym x.0 ∙ e in absurd cc
    go (inr x) = let other = x.1 in omega arith

same_tests : (a b : ℕ) → (a ≡ 0 → b ≡ 0) → (b ≡ 0 → a ≡ 0) → (a == 0) ≡ (b == 0)
same_tests a b f g = go (eqb_tells a 0) (eqb_tells b 0)
  where
    go : ((a == 0) ≡ true) × (a ≡ 0) ⊎ ((a == 0) ≡ false) × (a ≡ 0 → ⊥) → ((b == 0) ≡ true) × (b ≡ 0) ⊎ ((b == 0) ≡ false) × (b ≡ 0 → ⊥) → (a == 0) ≡ (b == 0)
    go (inl x) (inl y) = x.0 ∙ sym y.0
    go (inl x) (inr y) = absurd (y.1 (f x.1))
    go (inr x) (inl y) = absurd (x.1 (g y.1))
    go (inr x) (inr y) = x.0 ∙ sym y.0

-- no run, no frame
pub counts_none : (runs : List Run) → (length runs == 0) ≡ (length (frames_in runs) == 0)
counts_none [] = refl
counts_none (r ∷ runs) = same_tests (length (r ∷ runs)) (length (frames_in (r ∷ runs))) (λ e. absurd (omega arith)) (λ e. absurd (omega (arith, both (r ∷ []) runs, one r)))

-- ---- the count of all

pub all_counted : (empty : ℕ) (runs : List Run) (frames : List Frame) → empty_frames empty ++ frames_in runs ≡ frames → length frames ≡ empty + length (frames_in runs)
all_counted empty runs frames e = sym (ap length e) ∙ length-append (empty_frames empty) (frames_in runs) ∙ ap (λ n. n + length (frames_in runs)) (length-replicate empty empty_frame)

pub next_counted : (runs : List Run) (i : ℕ) (d : Run) → i < length runs → length (frames_in (take (i + 1) runs)) ≡ length (frames_in (take i runs)) + ((get_or runs i d).around + 1)
next_counted runs i d lt = ap (λ rs. length (frames_in rs)) (take_more runs i d lt) ∙ counts_more (take i runs) (get_or runs i d)

pub next_fits : (empty : ℕ) (runs : List Run) (frames : List Frame) (i : ℕ) (d : Run) → empty_frames empty ++ frames_in runs ≡ frames → i < length runs → empty + length (frames_in (take i runs)) + ((get_or runs i d).around + 1) ≤ length frames
next_fits empty runs frames i d e lt = omega (arith, all_counted empty runs frames e, next_counted runs i d lt, counts_front (i + 1) runs)
