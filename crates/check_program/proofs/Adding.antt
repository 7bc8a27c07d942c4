-- What a step adds to a text of findings.
use Rattle.std.proofs.Common.{◌≡◌, ◌∙◌, refl, sym, ap, ap₂, zero, suc, ℕ, ◌+◌, ◌==◌, ◌&&◌, ◌||◌, Bool, true, false, cond, not, List, [], ◌∷◌, ◌++◌, append_assoc, append-nil, count_by, arith}
use Rattle.std.specs.List.{list_any}
use Rattle.std.proofs.Math.Bool.{and-false, and-true, and_assoc}
use Rattle.std.proofs.lemmas.Bool.{ne_eqb}
use Rattle.std.proofs.lemmas.List.Sums.{sum_by-cons}
use Rattle.line_engine.specs.Output.{capped}
use Rattle.finding_forms.specs.declared.forms.Format.{Format}
use Rattle.finding_forms.specs.Finding.{Told}
use Rattle.finding_forms.specs.Forms.{finding_text}
use Rattle.finding_forms.specs.Sarif.{AreNumbered, IsNumbered}

-- the texts of findings, one behind the other; the first may be the first of all
abbrev pub told_text : Format → Bool → List Told → List ℕ
told_text format is_first [] = []
told_text format is_first (t ∷ ts) = finding_text format is_first t ++ told_text format false ts

abbrev pub are_none : List Told → Bool
are_none [] = true
are_none (t ∷ ts) = false

-- these findings are written, and behind them nothing was found exactly if nothing was before and they are none
pub record Adds (format : Format) (before : Bool) (text : List ℕ) (behind : Bool) : Type 0 where
  pub findings : List Told
  pub numbered : AreNumbered findings
  pub text_is : text ≡ told_text format before findings
  pub behind_is : behind ≡ (before && are_none findings)

-- ---- texts

numbered-append : (ts us : List Told) → AreNumbered ts → AreNumbered us → AreNumbered (ts ++ us)
numbered-append [] us h k = k
numbered-append (t ∷ ts) us h k = (h.0, numbered-append ts us h.1 k)

none-append : (ts us : List Told) → are_none (ts ++ us) ≡ (are_none ts && are_none us)
none-append [] us = refl
none-append (t ∷ ts) us = refl

text-append : (format : Format) (b : Bool) (ts us : List Told) → told_text format b (ts ++ us) ≡ told_text format b ts ++ told_text format (b && are_none ts) us
text-append format b [] us = ap (λ (c : Bool). told_text format c us) (sym (and-true b))
text-append format b (t ∷ ts) us =
    ap (λ (x : List ℕ). finding_text format b t ++ x) (text-append format false ts us)
    ∙ sym (append_assoc (finding_text format b t) (told_text format false ts) (told_text format false us))
    ∙ ap (λ (c : Bool). (finding_text format b t ++ told_text format false ts) ++ told_text format c us) (sym (and-false b))

-- ---- steps

pub adds_none : (format : Format) (b : Bool) → Adds format b [] b
adds_none format b = record { findings = []; numbered = tt; text_is = refl; behind_is = sym (and-true b) }

pub adds_one : (format : Format) (b : Bool) (t : Told) → IsNumbered t → Adds format b (finding_text format b t) (b && false)
adds_one format b t h = record { findings = t ∷ []; numbered = (h, tt); text_is = sym (append-nil (finding_text format b t)); behind_is = refl }

pub adds_as : (format : Format) (a b c : Bool) (text other : List ℕ) → Adds format a text b → other ≡ text → c ≡ b → Adds format a other c
adds_as format a b c text other h e d = record { findings = h.findings; numbered = h.numbered; text_is = e ∙ h.text_is; behind_is = d ∙ h.behind_is }

-- one step behind the other
pub adds_both : (format : Format) (a b c : Bool) (text more : List ℕ) → Adds format a text b → Adds format b more c → Adds format a (text ++ more) c
adds_both format a b c text more h k = record {
  findings = h.findings ++ k.findings;
  numbered = numbered-append h.findings k.findings h.numbered k.numbered;
  text_is =
      ap₂ (λ (x y : List ℕ). x ++ y) h.text_is (k.text_is ∙ ap (λ (d : Bool). told_text format d k.findings) h.behind_is)
      ∙ sym (text-append format a h.findings k.findings);
  behind_is =
      k.behind_is
      ∙ ap (λ (d : Bool). d && are_none k.findings) h.behind_is
      ∙ and_assoc a (are_none h.findings) (are_none k.findings)
      ∙ ap (λ (d : Bool). a && d) (sym (none-append h.findings k.findings));
}

-- ---- counts

-- counts stay at their greatest value, so what is counted is never none again
pub none_sum : (a r : ℕ) → (capped (a + r) == 0) ≡ ((a == 0) && (r == 0))
none_sum zero zero = refl
none_sum zero (suc r) = ne_eqb (capped (zero + suc r)) 0 (λ e. omega (arith, e)) ∙ sym (ne_eqb (suc r) 0 (λ e. omega (arith, e)))
none_sum (suc a) r = ne_eqb (capped (suc a + r)) 0 (λ e. omega (arith, e)) ∙ ap (λ (b : Bool). b && (r == 0)) (sym (ne_eqb (suc a) 0 (λ e. omega (arith, e))))

pub none_capped : (r : ℕ) → (capped r == 0) ≡ (r == 0)
none_capped zero = refl
none_capped (suc r) = ne_eqb (capped (suc r)) 0 (λ e. omega (arith, e)) ∙ sym (ne_eqb (suc r) 0 (λ e. omega (arith, e)))

-- what is counted first, second or third is found
first_of_three : (p q t b : Bool) → (p && q && t && b) ≡ ((p && t && b) && q)
first_of_three false q t b = refl
first_of_three true false t b = sym (and-false (t && b))
first_of_three true true t b = sym (and-true (t && b))

second_of_three : (p q t b : Bool) → (p && (t && q) && b) ≡ ((p && t && b) && q)
second_of_three false q t b = refl
second_of_three true q false b = refl
second_of_three true false true b = sym (and-false b)
second_of_three true true true b = sym (and-true b)

pub none_refused : (a r : ℕ) (t b : Bool) → ((capped (a + r) == 0) && t && b) ≡ (((a == 0) && t && b) && (r == 0))
none_refused a r t b = ap (λ (x : Bool). x && t && b) (none_sum a r) ∙ first_of_three (a == 0) (r == 0) t b

pub none_owed : (p b : Bool) (a r : ℕ) → (p && (capped (a + r) == 0) && b) ≡ ((p && (a == 0) && b) && (r == 0))
none_owed p b a r = ap (λ (x : Bool). p && x && b) (none_sum a r) ∙ second_of_three p (r == 0) (a == 0) b

pub none_bare : (p t : Bool) (a r : ℕ) → (p && t && (capped (a + r) == 0)) ≡ ((p && t && (a == 0)) && (r == 0))
none_bare p t a r = ap (λ (x : Bool). p && t && x) (none_sum a r) ∙ sym (and_assoc (p && t) (a == 0) (r == 0))

-- ---- what is found in a list

-- none of these is found
one_more : (b : Bool) (n : ℕ) → (not b && (n == 0)) ≡ ((cond b 1 0 + n) == 0)
one_more true n = sym (ne_eqb (1 + n) 0 (λ e. omega (arith, e)))
one_more false n = let e : n ≡ 0 + n = omega arith in ap (λ (m : ℕ). m == 0) e

pub none_counted : {A : Type 0} (p : A → Bool) (x : A) (xs : List A) → (not (p x) && (count_by p xs == 0)) ≡ (count_by p (x ∷ xs) == 0)
none_counted {A} p x xs = one_more (p x) (count_by p xs) ∙ ap (λ (n : ℕ). n == 0) (sym (sum_by-cons (λ (y : A). cond (p y) 1 0) x xs))

not_either : (b c : Bool) → not (b || c) ≡ (not b && not c)
not_either true c = refl
not_either false c = refl

pub none_of : {A : Type 0} (p : A → Bool) (xs : List A) → not (list_any p xs) ≡ (count_by p xs == 0)
none_of p [] = refl
none_of p (x ∷ xs) = not_either (p x) (list_any p xs) ∙ ap (λ (b : Bool). not (p x) && b) (none_of p xs) ∙ none_counted p x xs
