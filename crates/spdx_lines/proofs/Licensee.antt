-- The licensee that is found, or the fault, is the only one that a text has.
use Rattle.std.proofs.Common.{◌≡◌, ℕ, Bool, false, cond, List, [], ◌∷◌, ◌++◌, length, map, Option, Some, None, Result, Ok, Err, refl, sym, ap, subst, ◌∙◌, append-nil, codes}
use Rattle.std.specs.Prelude.{option_map, option_and_then, ok_or, MatchResult}
use Rattle.spdx_requirement.specs.Rows.{Rows}
use Rattle.spdx_requirement.specs.Items.{Reference, LicenseTerm, Addition, added, Requirement}
use Rattle.spdx_lexer.specs.Words.{Word, AdditionRef, With, Fault, Unexpected, Span, Item, Placed, words}
use Rattle.spdx_lexer.specs.Modes.{strict}
use Rattle.spdx_lexer.specs.Reading.{reading}
use Rattle.spdx_licensee.specs.LicenseeText.{license_named, addition_named, licensee_named, Begins, licensee_word_fault, licensee_end_fault, Names, IsLicenseeFault, at_word, at_place, at_end}
use Rattle.spdx_licensee.specs.Answers.{Answer, and_then, is_with, behind_addition, behind_with, behind_license, licensee_at}
use Rattle.spdx_licensee.proofs.Theorem.{licensee_found, fault_found}
use Rattle.spdx_lines.specs.Program.{IsTheLicensee}
use Rattle.spdx_lines.specs.Found.{licensee_of}

-- ---- what the words of a licensee are

abbrev alone : LicenseTerm → Requirement
alone l = record { license = l; addition = None }

abbrev joined : LicenseTerm → Addition → Requirement
joined l a = record { license = l; addition = Some a }

abbrev named_by : Option LicenseTerm → Option Addition → Option Requirement
named_by l a = option_and_then (λ (x : LicenseTerm). option_map (λ (y : Addition). joined x y) a) l

-- one word, or three of which the second is WITH
data Shape : List Word → Requirement → Type 0 where
  one : {w : Word} {l : LicenseTerm} → license_named w ≡ Some l → Shape (w ∷ []) (alone l)
  three : {w a : Word} {l : LicenseTerm} {ad : Addition} → license_named w ≡ Some l → addition_named a ≡ Some ad → Shape (w ∷ With ∷ a ∷ []) (joined l ad)

one_shape : (w : Word) (o : Option LicenseTerm) → license_named w ≡ o → (req : Requirement) → option_map alone o ≡ Some req → Shape (w ∷ []) req
one_shape w None e req h = absurd cc
one_shape w (Some l) e req h = let same : alone l ≡ req = cc in subst (λ (r : Requirement). Shape (w ∷ []) r) same (one e)

three_shape : (w a : Word) (o : Option LicenseTerm) (p : Option Addition) → license_named w ≡ o → addition_named a ≡ p → (req : Requirement) → named_by o p ≡ Some req → Shape (w ∷ With ∷ a ∷ []) req
three_shape w a None p e f req h = absurd cc
three_shape w a (Some l) None e f req h = absurd cc
three_shape w a (Some l) (Some ad) e f req h = let same : joined l ad ≡ req = cc in subst (λ (r : Requirement). Shape (w ∷ With ∷ a ∷ []) r) same (three e f)

shape : (ws : List Word) (req : Requirement) → licensee_named ws ≡ Some req → Shape ws req
shape [] req h = absurd cc
shape (w ∷ []) req h = one_shape w (license_named w) refl req h
shape (w ∷ With ∷ a ∷ []) req h = three_shape w a (license_named w) (addition_named a) refl refl req h
shape (w ∷ v ∷ ws) req h = absurd cc

-- ---- one word more

license_step : (len : ℕ) (w : Word) (s : Span) (l : LicenseTerm) (more : List Item) → license_named w ≡ Some l → licensee_at len (Ok (w, s) ∷ more) ≡ behind_license len l more
license_step len w s l more e = ap (λ (o : Option LicenseTerm). and_then (ok_or o (licensee_word_fault [] w, s)) (λ x. behind_license len x more)) e

addition_step : (len : ℕ) (l : LicenseTerm) (a : Word) (s : Span) (ad : Addition) (more : List Item) → addition_named a ≡ Some ad → behind_with len l (Ok (a, s) ∷ more) ≡ behind_addition l ad more
addition_step len l a s ad more e = ap (λ (o : Option Addition). and_then (ok_or o (Unexpected (codes "<addition>" ∷ []), s)) (λ x. behind_addition l x more)) e

no_license : (len : ℕ) (w : Word) (s : Span) (more : List Item) → license_named w ≡ None → licensee_at len (Ok (w, s) ∷ more) ≡ Err (licensee_word_fault [] w, s)
no_license len w s more e = ap (λ (o : Option LicenseTerm). and_then (ok_or o (licensee_word_fault [] w, s)) (λ x. behind_license len x more)) e

no_with : (len : ℕ) (l : LicenseTerm) (w : Word) (s : Span) (more : List Item) → is_with w ≡ false → behind_license len l (Ok (w, s) ∷ more) ≡ Err (Unexpected (codes "WITH" ∷ []), s)
no_with len l w s more e = ap (λ (b : Bool). and_then {A = Unit {0}} (cond b (Ok tt) (Err (Unexpected (codes "WITH" ∷ []), s))) (λ _. behind_with len l more)) e

no_addition : (len : ℕ) (l : LicenseTerm) (a : Word) (s : Span) (more : List Item) → addition_named a ≡ None → behind_with len l (Ok (a, s) ∷ more) ≡ Err (Unexpected (codes "<addition>" ∷ []), s)
no_addition len l a s more e = ap (λ (o : Option Addition). and_then (ok_or o (Unexpected (codes "<addition>" ∷ []), s)) (λ x. behind_addition l x more)) e

-- ---- a licensee is found

shape_found : (len : ℕ) (read : List Placed) (req : Requirement) → Shape (words read) req → licensee_at len (map Ok read) ≡ Ok req
shape_found len [] req h = elim h [ ]
shape_found len ((w, s) ∷ []) _ (one {l = l} e) = license_step len w s l [] e
shape_found len ((w, s) ∷ (v, t) ∷ []) req h = elim h [ ]
shape_found len ((w, s) ∷ (v, t) ∷ (a, u) ∷ []) _ (three {l = l} {ad = ad} e f) =
    license_step len w s l (Ok (With, t) ∷ Ok (a, u) ∷ []) e ∙ addition_step len l a u ad [] f
shape_found len ((w, s) ∷ (v, t) ∷ (a, u) ∷ p ∷ read) req h = elim h [ ]

-- ---- a fault is found

-- what is behind some words: nothing, a licence, a licence and WITH, or all of a licensee
data Behind : Type 0 where
  start : Behind
  license : LicenseTerm → Behind
  with : LicenseTerm → Behind
  all : LicenseTerm → Addition → Behind

data At : List Word → Behind → Type 0 where
  at_start : At [] start
  at_license : {w : Word} {l : LicenseTerm} → license_named w ≡ Some l → At (w ∷ []) (license l)
  at_with : {w : Word} {l : LicenseTerm} → license_named w ≡ Some l → At (w ∷ With ∷ []) (with l)
  at_all : {w a : Word} {l : LicenseTerm} {ad : Addition} → license_named w ≡ Some l → addition_named a ≡ Some ad → At (w ∷ With ∷ a ∷ []) (all l ad)

-- what is found from there on
abbrev from : ℕ → Behind → List Item → Answer Requirement
from len start items = licensee_at len items
from len (license l) items = behind_license len l items
from len (with l) items = behind_with len l items
from len (all l ad) items = behind_addition l ad items

place_of : (ws more : List Word) (req : Requirement) → Shape (ws ++ more) req → (b : Behind) × At ws b
place_of [] more req h = (start, at_start)
place_of (w ∷ []) [] _ (one {l = l} e) = (license l, at_license e)
place_of (w ∷ []) _ _ (three {l = l} e f) = (license l, at_license e)
place_of (w ∷ v ∷ []) _ _ (three {l = l} e f) = (with l, at_with e)
place_of (w ∷ v ∷ a ∷ []) _ _ (three {l = l} {ad = ad} e f) = (all l ad, at_all e f)
place_of (w ∷ v ∷ a ∷ b ∷ ws) more req h = elim h [ ]

place : (ws : List Word) → Begins ws → (b : Behind) × At ws b
place ws h = place_of ws h.0 h.1 (shape (ws ++ h.0) h.1 h.2)

passes : (len : ℕ) (read : List Placed) (rest : List Item) (b : Behind) → At (words read) b → licensee_at len (map Ok read ++ rest) ≡ from len b rest
passes len [] rest _ at_start = refl
passes len ((w, s) ∷ []) rest _ (at_license {l = l} e) = license_step len w s l rest e
passes len ((w, s) ∷ (v, t) ∷ []) rest _ (at_with {l = l} e) = license_step len w s l (Ok (With, t) ∷ rest) e
passes len ((w, s) ∷ (v, t) ∷ (a, u) ∷ []) rest _ (at_all {l = l} {ad = ad} e f) =
    license_step len w s l (Ok (With, t) ∷ Ok (a, u) ∷ rest) e ∙ addition_step len l a u ad rest f
passes len ((w, s) ∷ (v, t) ∷ (a, u) ∷ p ∷ read) rest b h = elim h [ ]

fault_from : (len : ℕ) (b : Behind) (fault : Fault × Span) (more : List Item) → from len b (Err fault ∷ more) ≡ Err fault
fault_from len start fault more = refl
fault_from len (license l) fault more = refl
fault_from len (with l) fault more = refl
fault_from len (all l ad) fault more = refl

end_from : (len : ℕ) (ws : List Word) (b : Behind) → At ws b → licensee_named ws ≡ None → from len b [] ≡ Err (licensee_end_fault len ws)
end_from len _ _ at_start h = refl
end_from len _ _ (at_license {w = w} {l = l} e) h = let some : option_map alone (Some l) ≡ None = sym (ap (option_map alone) e) ∙ h in absurd cc
end_from len _ _ (at_with e) h = refl
end_from len _ _ (at_all {w = w} {a = a} {l = l} {ad = ad} e f) h =
    let some : named_by (Some l) (Some ad) ≡ None = sym (ap (λ o. named_by o (addition_named a)) e ∙ ap (λ o. named_by (Some l) o) f) ∙ h in absurd cc

none_license : (w : Word) (o : Option LicenseTerm) → license_named w ≡ o → (Begins (w ∷ []) → ⊥) → o ≡ None
none_license w None e h = refl
none_license w (Some l) e h = absurd (h ([], alone l, ap (option_map alone) e))

none_addition : (w a : Word) (l : LicenseTerm) (o : Option Addition) → license_named w ≡ Some l → addition_named a ≡ o → (Begins (w ∷ With ∷ a ∷ []) → ⊥) → o ≡ None
none_addition w a l None e f h = refl
none_addition w a l (Some ad) e f h = absurd (h ([], joined l ad, ap (λ o. named_by o (addition_named a)) e ∙ ap (λ o. named_by (Some l) o) f))

-- a licence may be followed by WITH alone
none_with : (w v : Word) (l : LicenseTerm) → license_named w ≡ Some l → (Begins (w ∷ v ∷ []) → ⊥) → is_with v ≡ false
none_with w With l e h =
    let other : Reference = record { document = None; name = [] } in
    absurd (h (AdditionRef None [] ∷ [], joined l (added other), ap (λ o. named_by o (Some (added other))) e))
none_with w v l e h = refl

word_from : (len : ℕ) (ws : List Word) (b : Behind) (w : Word) (s : Span) (more : List Item) → At ws b → (Begins (ws ++ w ∷ []) → ⊥) → from len b (Ok (w, s) ∷ more) ≡ Err (licensee_word_fault ws w, s)
word_from len _ _ w s more at_start h = no_license len w s more (none_license w (license_named w) refl h)
word_from len _ _ w s more (at_license {w = v} {l = l} e) h = no_with len l w s more (none_with v w l e h)
word_from len _ _ w s more (at_with {w = v} {l = l} e) h = no_addition len l w s more (none_addition v w l (addition_named w) e refl h)
word_from len _ _ w s more (at_all e f) h = refl

module _ (c : Rows) (text : List ℕ) where
  found_by : (items : List Item) → reading c strict 0 text ≡ items → licensee_of c text ≡ licensee_at (length text) items
  unfolding licensee_of
  found_by items e = ap (λ (xs : List Item). licensee_at (length text) xs) e

  only_licensee : (req : Requirement) → Names c text req → licensee_of c text ≡ Ok req
  only_licensee req h = found_by (map Ok h.0) h.1 ∙ shape_found (length text) h.0 req (shape (words h.0) req h.2)

  only_fault : (fault : Fault) (s : Span) → IsLicenseeFault c text fault s → licensee_of c text ≡ Err (fault, s)
  only_fault _ _ (at_word read w {s = s} more r begins not) =
      let k = place (words read) begins in
      found_by (map Ok read ++ Ok (w, s) ∷ more) r ∙ passes (length text) read (Ok (w, s) ∷ more) k.0 k.1 ∙ word_from (length text) (words read) k.0 w s more k.1 not
  only_fault _ _ (at_place read {f = f} {s = s} more r begins) =
      let k = place (words read) begins in
      found_by (map Ok read ++ Err (f, s) ∷ more) r ∙ passes (length text) read (Err (f, s) ∷ more) k.0 k.1 ∙ fault_from (length text) k.0 (f, s) more
  only_fault _ _ (at_end read r begins none) =
      let k = place (words read) begins in
      found_by (map Ok read ++ []) (r ∙ sym (append-nil (map Ok read))) ∙ passes (length text) read [] k.0 k.1 ∙ end_from (length text) (words read) k.0 k.1 none

  given_by : (r : Result Requirement (Fault × Span)) → licensee_at (length text) (reading c strict 0 text) ≡ r → MatchResult r (Names c text) (λ fault. IsLicenseeFault c text fault.0 fault.1)
  given_by (Ok req) e = licensee_found c text (reading c strict 0 text) refl req e
  given_by (Err fault) e = fault_found c text (reading c strict 0 text) refl fault e

  given : MatchResult (licensee_of c text) (Names c text) (λ fault. IsLicenseeFault c text fault.0 fault.1)
  unfolding licensee_of
  given = given_by (licensee_at (length text) (reading c strict 0 text)) refl

  pub the_licensee : IsTheLicensee c text (licensee_of c text)
  the_licensee = record { given = given; only_licensee = only_licensee; only_fault = only_fault }
