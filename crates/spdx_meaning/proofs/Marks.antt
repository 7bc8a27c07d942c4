-- Marks tell which numbers a set has, and the places among some requirements have marks.
use Rattle.std.proofs.Common.{◌≡◌, ℕ, ◌+◌, ◌<◌, ◌≤◌, Bool, true, false, cond, List, [], ◌∷◌, length, map, get_or, refl, ◌∙◌, ap, All, inl, inr, arith}
use Rattle.std.specs.Prelude.{◌==◌}
use Rattle.std.proofs.lemmas.Bool.Decides.{nat_tests}
use Rattle.std.proofs.lemmas.Bool.{eq-eqb, cases_lt}
use Rattle.std.proofs.lemmas.List.{get_or_past}
use Rattle.std.proofs.lemmas.List.Elements.{All-head, All-tail, All-cons, All-nil}
use Rattle.spdx_requirement.specs.Items.{Requirement}
use Rattle.spdx_requirement.specs.Equality.{same_requirement}
use Rattle.selections.specs.Sets.{is_in}
use Rattle.spdx_meaning.specs.Places.{place_in}
use Rattle.spdx_meaning.specs.Marks.{has_mark, AreMarked}

module _ (old set : List ℕ) (mark : ℕ) (new : List ℕ) (marked : AreMarked old set mark new) (low : (k : ℕ) → get_or old k 0 < mark) where
  tells : (k : ℕ) → k < length old → has_mark new mark k ≡ is_in set k
  tells k lt = ap (λ (n : ℕ). n == mark) (marked k lt) ∙ cases (is_in set k)
    where
      cases : (b : Bool) → (cond b mark (get_or old k 0) == mark) ≡ b
      cases true = eq-eqb mark mark refl
      cases false = let h = low k in grind (arith, nat_tests, h)

  pub marks_tell : (ks : List ℕ) → All (λ k. k < length old) ks → map (has_mark new mark) ks ≡ map (is_in set) ks
  marks_tell [] within = refl
  marks_tell (k ∷ ks) within =
      ap (λ (b : Bool). b ∷ map (has_mark new mark) ks) (tells k (All-head (λ n. n < length old) k ks within))
      ∙ ap (λ (z : List Bool). is_in set k ∷ z) (marks_tell ks (All-tail (λ n. n < length old) k ks within))

  -- no mark is above the newest
  pub still_low : length new ≡ length old → (k : ℕ) → get_or new k 0 ≤ mark
  still_low same k = elim (cases_lt k (length old)) [
    | inl lt ↦ rw (marked k lt) (cases (is_in set k) (low k))
    | inr out ↦ rw (get_or_past new k 0 (omega (arith, same, out))) (omega arith)
  ]
    where
      cases : (b : Bool) → get_or old k 0 < mark → cond b mark (get_or old k 0) ≤ mark
      cases true h = omega arith
      cases false h = omega arith

place_few : (qs : List Requirement) (r : Requirement) → place_in qs r ≤ length qs
place_few [] r = omega arith
place_few (q ∷ qs) r = cases (same_requirement q r) (place_few qs r)
  where
    cases : (b : Bool) → place_in qs r ≤ length qs → cond b 0 (place_in qs r + 1) ≤ length (q ∷ qs)
    cases true few = omega arith
    cases false few = omega (arith, few)

pub places_few : (qs rs : List Requirement) (n : ℕ) → length qs < n → All (λ k. k < n) (map (place_in qs) rs)
places_few qs [] n lt = All-nil (λ k. k < n)
places_few qs (r ∷ rs) n lt = All-cons (λ k. k < n) (place_in qs r) (map (place_in qs) rs) (omega (arith, place_few qs r)) (places_few qs rs n lt)
