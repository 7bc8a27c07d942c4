-- What is written of expressions, one behind another.
use Rattle.std.proofs.Common.{◌≡◌, ℕ, ◌+◌, Bool, true, false, ◌&&◌, not, cond, eqb, List, [], ◌∷◌, ◌++◌, Option, Some, None, refl, sym, ap, ◌∙◌, append_assoc, arith}
use Rattle.std.specs.Prelude.{is_some}
use Rattle.std.proofs.Math.Bool.{and-true}
use Rattle.std.proofs.lemmas.Bool.{ne_eqb}
use Rattle.std.proofs.lemmas.List.Sums.{sum_by-append}
use Rattle.finding_forms.specs.declared.forms.Format.{Format}
use Rattle.finding_forms.specs.Forms.{finding_text}
use Rattle.spdx_check.specs.Finding.{Wrong}
use Rattle.check_sources.specs.Findings.{Source, TellsEach, findings_text, found_text, refused_count}
use Rattle.check_sources.specs.Written.{Written, told_in}

and_false : (b : Bool) → (b && false) ≡ false
and_false true = refl
and_false false = refl

not_zero : (n : ℕ) → eqb (n + 1) 0 ≡ false
not_zero n = ne_eqb (n + 1) 0 (λ e. omega (arith, e))

-- whether the next is the first of all, where so many were refused
abbrev pub is_next : Bool → ℕ → Bool
is_next is_first refused = is_first && eqb refused 0

abbrev pub more : Option Wrong → ℕ → ℕ
more found refused = cond (is_some found) (refused + 1) refused

next_flag : (is_first : Bool) (refused : ℕ) (found : Option Wrong) → (is_next is_first refused && not (is_some found)) ≡ is_next is_first (more found refused)
next_flag false refused found = refl
next_flag true refused None = and-true (eqb refused 0)
next_flag true refused (Some wrong) = and_false (eqb refused 0) ∙ sym (not_zero refused)

module _ (finding : List ℕ → Option Wrong) (format : Format) (source : Source) where
  -- ---- one further

  -- what is written, and what is yet to be written
  pub text_further : (is_first : Bool) (refused : ℕ) (w : Written) (ws : List Written) (text new all : List ℕ) →
      text ++ findings_text finding format (is_next is_first refused) source (w ∷ ws) ≡ all →
      new ≡ text ++ found_text format (is_next is_first refused) source w (finding w.text) →
      new ++ findings_text finding format (is_next is_first (more (finding w.text) refused)) source ws ≡ all
  text_further is_first refused w ws text new all h e =
      let rest = findings_text finding format (is_next is_first refused && not (is_some (finding w.text))) source ws in
      ap (λ b. new ++ findings_text finding format b source ws) (sym (next_flag is_first refused (finding w.text)))
      ∙ ap (λ xs. xs ++ rest) e
      ∙ append_assoc text (found_text format (is_next is_first refused) source w (finding w.text)) rest
      ∙ h

  -- ---- laws

  tells_at : (is_first : Bool) (before : List Written) (w : Written) (behind : List Written) (wrong : Wrong) → finding w.text ≡ Some wrong →
      (front : List ℕ) × (b : Bool) × (back : List ℕ) ×
      (findings_text finding format is_first source (before ++ w ∷ behind) ≡ front ++ (finding_text format b (told_in source.path source.bytes w wrong) ++ back))
  tells_at is_first [] w behind wrong e =
      let rest = findings_text finding format (is_first && not (is_some (finding w.text))) source behind in
      ([], is_first, rest, ap (λ found. found_text format is_first source w found ++ rest) e)
  tells_at is_first (x ∷ xs) w behind wrong e =
      let here = found_text format is_first source x (finding x.text) in
      let r = tells_at (is_first && not (is_some (finding x.text))) xs w behind wrong e in
      (here ++ r.0, r.1, r.2, ap (λ l. here ++ l) r.3 ∙ sym (append_assoc here r.0 _))

  pub tells : (is_first : Bool) (ws : List Written) (text : List ℕ) → text ≡ findings_text finding format is_first source ws → TellsEach finding format source ws text
  tells is_first ws text e before w behind wrong split is =
      let r = tells_at is_first before w behind wrong is in
      (r.0, r.1, r.2, e ∙ ap (λ l. findings_text finding format is_first source l) split ∙ r.3)

  clean_one : (is_first : Bool) (w : Written) (found : Option Wrong) → ◌≡◌ {A = ℕ} (cond (is_some found) 1 0) 0 → found_text format is_first source w found ≡ []
  clean_one is_first w None h = refl
  clean_one is_first w (Some wrong) h = absurd (omega (arith, h))

  pub clean : (is_first : Bool) (ws : List Written) → refused_count finding ws ≡ 0 → findings_text finding format is_first source ws ≡ []
  clean is_first [] h = refl
  clean is_first (w ∷ ws) h =
      let here : ℕ = cond (is_some (finding w.text)) 1 0 in
      let sum : refused_count finding (w ∷ ws) ≡ (0 + here) + refused_count finding ws = sum_by-append _ (w ∷ []) ws in
      let none : here ≡ 0 = omega (arith, h, sum) in
      let others : refused_count finding ws ≡ 0 = omega (arith, h, sum) in
      ap (λ l. l ++ findings_text finding format (is_first && not (is_some (finding w.text))) source ws) (clean_one is_first w (finding w.text) none)
      ∙ clean (is_first && not (is_some (finding w.text))) ws others
