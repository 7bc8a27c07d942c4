-- Where a text occurs in bytes, and a tag in a line.
use Rattle.std.proofs.Common.{◌≡◌, ◌≢◌, ℕ, suc, zero, ◌+◌, ◌-◌, ◌<◌, ◌≤◌, Bool, true, false, not, nat_eq, cond, MatchOption, subst, inl, inr, List, [], ◌∷◌, Option, Some, None, option_map, length, get_or, take, drop, refl, sym, ap, ◌∙◌, zero-add, arith}
use Rattle.std.specs.List.{starts_with, list_all}
use Rattle.std.proofs.lemmas.List.{get_or-take, get_or-drop, length-take-le, length-drop}
use Rattle.std.proofs.lemmas.List.Prefix.{front_from_reads, front_fits, front_reads}
use Rattle.std.proofs.lemmas.List.Folds.{list_all_at}
use Rattle.std.proofs.lemmas.Slice.Eq.{starts_is}
use Rattle.std.proofs.lemmas.Bool.{cases_lt}
use Rattle.std.proofs.lemmas.Bool.Decides.{Decides-eqb}
use Rattle.memchr.specs.Find.{OccursAt, FindsNeedle}
use Rattle.license_tags.specs.Tags.{tag_text, start_text, end_text, place_of}

pub tag_text-length : length tag_text ≡ 24
unfolding tag_text
tag_text-length = refl

pub start_text-length : length start_text ≡ 17
unfolding start_text
start_text-length = refl

pub end_text-length : length end_text ≡ 15
unfolding end_text
end_text-length = refl

no_newline : list_all (λ b. not (nat_eq b 10)) tag_text ≡ true
unfolding tag_text
no_newline = refl

tag_text-newline : (j : ℕ) → j < length tag_text → get_or tag_text j 0 ≢ 10
tag_text-newline j l e =
    let ill : list_all (λ b. not (nat_eq b 10)) tag_text ≡ false = list_all_at (λ b. not (nat_eq b 10)) tag_text j 0 l (ap (λ (b : ℕ). not (nat_eq b 10)) e) in
    let well = no_newline in
    cc

-- the text t occurs nowhere
abbrev pub IsAbsent : List ℕ → List ℕ → Type 0
IsAbsent t xs = (j : ℕ) → OccursAt xs t j → ⊥

-- it occurs first at this place
pub record IsFirstAt (t xs : List ℕ) (k : ℕ) : Type 0 where
  pub here : OccursAt xs t k
  pub first : (j : ℕ) → j < k → OccursAt xs t j → ⊥

drop_occurs : (xs t : List ℕ) (m k : ℕ) → m ≤ length xs → OccursAt xs t (m + k) → OccursAt (drop m xs) t k
drop_occurs xs t m k l h = record {
  fits = simp length-drop (omega (arith, h.fits));
  reads = λ j b. get_or-drop m xs (k + j) 0 ∙ ap (λ (n : ℕ). get_or xs n 0) (omega arith) ∙ h.reads j b;
}

occurs_drop : (xs t : List ℕ) (m k : ℕ) → m ≤ length xs → OccursAt (drop m xs) t k → OccursAt xs t (m + k)
occurs_drop xs t m k l h = record {
  fits = omega (arith, simp length-drop at h.fits);
  reads = λ j b. ap (λ (n : ℕ). get_or xs n 0) (omega arith) ∙ sym (get_or-drop m xs (k + j) 0) ∙ h.reads j b;
}

take_occurs : (xs t : List ℕ) (n k : ℕ) → n ≤ length xs → k + length t ≤ n → OccursAt xs t k → OccursAt (take n xs) t k
take_occurs xs t n k l f h = record {
  fits = omega (arith, length-take-le n xs l);
  reads = λ j b. get_or-take n xs (k + j) 0 (omega arith) ∙ h.reads j b;
}

occurs_take : (xs t : List ℕ) (n k : ℕ) → n ≤ length xs → OccursAt (take n xs) t k → OccursAt xs t k
occurs_take xs t n k l h =
    let low : k + length t ≤ n = omega (arith, length-take-le n xs l, h.fits) in
    record {
      fits = omega arith;
      reads = λ j b. sym (get_or-take n xs (k + j) 0 (omega arith)) ∙ h.reads j b;
    }

not_true : (b : Bool) → (b ≡ true → ⊥) → b ≡ false
not_true true n = absurd (n refl)
not_true false n = refl

-- where the text occurs next in these bytes, or that it doesn't
abbrev pub IsNext : List ℕ → List ℕ → Option ℕ → Type 0
IsNext t xs next = MatchOption next (IsAbsent t xs) (λ k. IsFirstAt t xs k)

module _ (t : List ℕ) (some : 0 < length t) where
  starts_occurs : (xs : List ℕ) → starts_with nat_eq xs t ≡ true → OccursAt xs t 0
  starts_occurs xs h =
      let e = (starts_is Decides-eqb xs t (starts_with nat_eq xs t) refl).0 h in
      record {
        fits = omega (arith, front_fits xs t (drop (length t) xs) e);
        reads = λ j b. ap (λ (n : ℕ). get_or xs n 0) (zero-add j) ∙ front_reads 0 xs t (drop (length t) xs) e j b;
      }

  occurs_starts : (xs : List ℕ) → OccursAt xs t 0 → starts_with nat_eq xs t ≡ true
  occurs_starts xs h =
      (starts_is Decides-eqb xs t (starts_with nat_eq xs t) refl).1 (drop (length t) xs) (front_from_reads 0 xs t (omega (arith, h.fits)) (λ j b. ap (λ (n : ℕ). get_or xs n 0) (sym (zero-add j)) ∙ h.reads j b))

  place_yes : (x : ℕ) (xs : List ℕ) → starts_with nat_eq (x ∷ xs) t ≡ true → place_of t (x ∷ xs) ≡ Some 0
  place_yes x xs h = ap (λ (b : Bool). cond b (Some 0) (option_map (λ n. 1 + n) (place_of t xs))) h

  place_no : (x : ℕ) (xs : List ℕ) → starts_with nat_eq (x ∷ xs) t ≡ false → place_of t (x ∷ xs) ≡ option_map (λ n. 1 + n) (place_of t xs)
  place_no x xs h = ap (λ (b : Bool). cond b (Some 0) (option_map (λ n. 1 + n) (place_of t xs))) h

  absent_tail : (x : ℕ) (xs : List ℕ) → IsAbsent t (x ∷ xs) → IsAbsent t xs
  absent_tail x xs h j o = h (1 + j) (occurs_drop (x ∷ xs) t 1 j (omega arith) o)

  first_tail : (x : ℕ) (xs : List ℕ) (k : ℕ) → IsFirstAt t (x ∷ xs) (suc k) → IsFirstAt t xs k
  first_tail x xs k h = record {
    here = drop_occurs (x ∷ xs) t 1 k (omega arith) (subst (OccursAt (x ∷ xs) t) (omega arith) h.here);
    first = λ j l o. h.first (1 + j) (omega arith) (occurs_drop (x ∷ xs) t 1 j (omega arith) o);
  }

  pub place_of-none : (xs : List ℕ) → IsAbsent t xs → place_of t xs ≡ None
  place_of-none [] h = refl
  place_of-none (x ∷ xs) h =
      place_no x xs (not_true (starts_with nat_eq (x ∷ xs) t) (λ e. h 0 (starts_occurs (x ∷ xs) e)))
      ∙ ap (option_map (λ n. 1 + n)) (place_of-none xs (absent_tail x xs h))

  pub place_of-first : (xs : List ℕ) (k : ℕ) → IsFirstAt t xs k → place_of t xs ≡ Some k
  place_of-first [] k h = absurd (omega (arith, h.here.fits, some))
  place_of-first (x ∷ xs) zero h = place_yes x xs (occurs_starts (x ∷ xs) h.here)
  place_of-first (x ∷ xs) (suc k) h =
      place_no x xs (not_true (starts_with nat_eq (x ∷ xs) t) (λ e. h.first 0 (omega arith) (starts_occurs (x ∷ xs) e)))
      ∙ ap (option_map (λ n. 1 + n)) (place_of-first xs k (first_tail x xs k h))
      ∙ ap Some (omega arith)

  -- what a search answers
  pub place_of-next : (xs : List ℕ) (r : Option ℕ) → IsNext t xs r → r ≡ place_of t xs
  place_of-next xs None h = sym (place_of-none xs h)
  place_of-next xs (Some k) h = sym (place_of-first xs k h)

pub next_found : (t xs : List ℕ) (r : Option ℕ) → FindsNeedle xs t 0 r → IsNext t xs r
next_found t xs None h = λ j o. h j (omega arith) (omega (arith, o.fits)) o
next_found t xs (Some k) h = record { here = h.1; first = λ j l o. h.0.before j (omega arith) l o }

module _ (xs : List ℕ) (k len : ℕ) (h : IsFirstAt tag_text xs k) (within : len ≤ length xs) where
  -- no tag in a line that ends before it
  pub line_absent : len ≤ k → IsAbsent tag_text (take len xs)
  line_absent l j o =
      let low : j + length tag_text ≤ len = omega (arith, length-take-le len xs within, o.fits) in
      h.first j (omega (arith, tag_text-length)) (occurs_take xs tag_text len j within o)

  module _ (newline : len < length xs → get_or xs len 0 ≡ 10) where
    outside : (j : ℕ) → j < length tag_text → len ≡ k + j → ⊥
    outside j b e =
        let in' : len < length xs = omega (arith, h.here.fits) in
        tag_text-newline j b (sym (h.here.reads j b) ∙ ap (λ (n : ℕ). get_or xs n 0) (sym e) ∙ newline in')

    -- the tag is whole in its line
    pub line_whole : k < len → k + length tag_text ≤ len
    line_whole l =
        elim (cases_lt len (k + length tag_text)) [
          | inl low ↦ absurd (outside (len - k) (omega arith) (omega arith))
          | inr high ↦ high
        ]

    pub line_first : k < len → IsFirstAt tag_text (take len xs) k
    line_first l = record {
      here = take_occurs xs tag_text len k within (line_whole l) h.here;
      first = λ j low o. h.first j low (occurs_take xs tag_text len j within o);
    }

    pub line_before : len ≤ k → len + 1 ≤ k
    line_before l =
        elim (cases_lt len k) [
          | inl low ↦ omega arith
          | inr high ↦ absurd (outside 0 (omega (arith, tag_text-length)) (omega arith))
        ]

    pub behind_first : len ≤ k → IsFirstAt tag_text (drop (len + 1) xs) (k - (len + 1))
    behind_first l =
        let low = line_before l in
        let room : len + 1 ≤ length xs = omega (arith, h.here.fits) in
        record {
          here = drop_occurs xs tag_text (len + 1) (k - (len + 1)) room (subst (OccursAt xs tag_text) (omega (arith, low)) h.here);
          first = λ j b o. h.first (len + 1 + j) (omega (arith, low)) (occurs_drop xs tag_text (len + 1) j room o);
        }
