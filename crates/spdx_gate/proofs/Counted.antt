-- Texts that were met, and how many times each of them is there when doubles are left out.
use Rattle.std.proofs.Common.{◌≡◌, ℕ, ◌+◌, Bool, true, false, cond, ◌||◌, List, [], ◌∷◌, ◌++◌, Bor, refl, sym, ap, ◌∙◌, subst, add-zero}
use Rattle.std.specs.Prelude.{bytes_eq, count_by, fold, if◌then◌else◌}
use Rattle.std.specs.Ordering.{nat_cmp}
use Rattle.std.specs.Cmp.Lexicographic.{slice_cmp}
use Rattle.std.specs.BTreeSet.{BTreeSet, UpdatesBy, contains}
use Rattle.std.proofs.lemmas.Cmp.{nat_list_eq_equiv}
use Rattle.std.proofs.lemmas.List.Folds.{list_any-append}
use Rattle.std.proofs.lemmas.List.Sums.{sum_by-append, sum_by-cons}
use Rattle.std.proofs.lemmas.Map.Text.{is_eq-slice_cmp}
use Rattle.std.proofs.lemmas.Slice.Eq.{bytes_eq-Decides}
use Rattle.spdx_gate.specs.Counts.{Has, text_cmp, times}
use Rattle.spdx_gate.specs.Needs.{texts_of}
use Rattle.spdx_gate.specs.Texts.{each_once, is_among, with_text}

or_false : (b : Bool) → (b || false) ≡ b
or_false true = refl
or_false false = refl

or_cond : (a b : Bool) → cond b true a ≡ (a || b)
or_cond true true = refl
or_cond true false = refl
or_cond false true = refl
or_cond false false = refl

or_assoc : (a b c : Bool) → ((a || b) || c) ≡ (a || (b || c))
or_assoc true b c = refl
or_assoc false b c = refl

-- a text more
among_more : (texts : List (List ℕ)) (text q : List ℕ) → is_among (texts ++ text ∷ []) q ≡ (is_among texts q || bytes_eq text q)
among_more texts text q =
    list_any-append (λ other. bytes_eq other q) texts (text ∷ []) ∙ ap (λ b. is_among texts q || b) (or_false (bytes_eq text q))

pub has-insert : (met after : BTreeSet (Bor (List ℕ))) (texts : List (List ℕ)) (x : List ℕ) → Has met texts → UpdatesBy text_cmp (λ k. slice_cmp nat_cmp x k.now) met after true → Has after (texts ++ x ∷ [])
has-insert met after texts x has updates r =
    updates.0 r ∙ ap (λ c. cond c true (contains text_cmp met r)) (is_eq-slice_cmp x r.now) ∙ ap (cond (bytes_eq x r.now) true) (has r)
    ∙ or_cond (is_among texts r.now) (bytes_eq x r.now) ∙ sym (among_more texts x r.now)

-- whether a text is another one, as a number
abbrev is_one : List ℕ → List ℕ → ℕ
is_one q other = cond (bytes_eq other q) 1 0

times_more : (texts : List (List ℕ)) (text q : List ℕ) → times (texts ++ text ∷ []) q ≡ times texts q + is_one q text
times_more texts text q =
    sum_by-append (is_one q) texts (text ∷ []) ∙ ap (λ n. times texts q + n) (sum_by-cons (is_one q) text [] ∙ add-zero (is_one q text))

-- a text that is there already, or that is not
met_or_new : (known : List (List ℕ)) (t q : List ℕ) (there : Bool) → is_among known t ≡ there → is_among (if there then known else known ++ t ∷ []) q ≡ (is_among known q || bytes_eq t q)
met_or_new known t q false h = among_more known t q
met_or_new known t q true h = same (bytes_eq t q) refl
  where
    same : (b : Bool) → bytes_eq t q ≡ b → is_among known q ≡ (is_among known q || b)
    same false e = sym (or_false (is_among known q))
    same true e =
        let there : is_among known q ≡ true = subst (λ (z : List ℕ). is_among known z ≡ true) ((bytes_eq-Decides t q).0 e) h in
        rw there refl

counted_or_new : (known : List (List ℕ)) (t q : List ℕ) (there : Bool) → is_among known t ≡ there → times known q ≡ cond (is_among known q) 1 0
    → times (if there then known else known ++ t ∷ []) q ≡ cond (is_among (if there then known else known ++ t ∷ []) q) 1 0
counted_or_new known t q true h one = one
counted_or_new known t q false h one =
    times_more known t q ∙ ap (λ n. n + is_one q t) one ∙ joined (bytes_eq t q) refl ∙ ap (λ b. cond b 1 0) (sym (among_more known t q))
  where
    kept : (b : Bool) → cond b 1 0 + 0 ≡ cond (b || false) 1 0
    kept true = refl
    kept false = refl

    joined : (b : Bool) → bytes_eq t q ≡ b → cond (is_among known q) 1 0 + cond b 1 0 ≡ cond (is_among known q || b) 1 0
    joined false e = kept (is_among known q)
    joined true e =
        let none : is_among known q ≡ false = subst (λ (z : List ℕ). is_among known z ≡ false) ((bytes_eq-Decides t q).0 e) h in
        rw none refl

among_all : (known texts : List (List ℕ)) (q : List ℕ) → times known q ≡ cond (is_among known q) 1 0
    → times (fold with_text known texts) q ≡ cond (is_among known q || is_among texts q) 1 0
among_all known [] q one = one ∙ ap (λ b. cond b 1 0) (sym (or_false (is_among known q)))
among_all known (t ∷ texts) q one =
    among_all (with_text known t) texts q (counted_or_new known t q (is_among known t) refl one)
    ∙ ap (λ b. cond (b || is_among texts q) 1 0) (met_or_new known t q (is_among known t) refl)
    ∙ ap (λ b. cond b 1 0) (or_assoc (is_among known q) (bytes_eq t q) (is_among texts q))

-- as many, whichever side of the test a text stands on
pub seen_times : (texts : List (Bor (List ℕ))) (q : List ℕ) → count_by (λ t. bytes_eq q t.now) texts ≡ times (texts_of texts) q
seen_times [] q = refl
seen_times (t ∷ texts) q =
    sum_by-cons (λ (x : Bor (List ℕ)). cond (bytes_eq q x.now) 1 0) t texts
    ∙ ap (λ b. cond b 1 0 + count_by (λ (x : Bor (List ℕ)). bytes_eq q x.now) texts) (nat_list_eq_equiv.symm q t.now)
    ∙ ap (λ n. is_one q t.now + n) (seen_times texts q) ∙ sym (sum_by-cons (is_one q) t.now (texts_of texts))

-- each text is there once in the end
pub each_there_once : (texts : List (List ℕ)) (q : List ℕ) → times (each_once texts) q ≡ cond (is_among texts q) 1 0
each_there_once texts q = among_all [] texts q refl
