-- The reading of words, each as it is printed.
use Rattle.std.proofs.Common.{◌≡◌, ℕ, true, List, [], ◌∷◌, ◌++◌, refl, ◌∙◌, sym, ap, lit<, append_assoc, IsTrue}
use Rattle.std.specs.Prelude.{codes}
use Rattle.spdx_requirement.specs.Rows.{Rows}
use Rattle.spdx_catalogue.specs.RowRules.{is_well_formed}
use Rattle.spdx_lexer.specs.declared.token.ParseMode.{ParseMode}
use Rattle.spdx_lexer.specs.Words.{Word, Spdx, LicenseRef, Exception, AdditionRef, Unknown, Plus, OpenParen, CloseParen, With, And, Or}
use Rattle.spdx_lexer.specs.Text.{is_run_byte}
use Rattle.spdx_requirement.specs.Texts.{reference_text}
use Rattle.spdx_canonical.specs.Canonical.{word_text}
use Rattle.spdx_canonical.proofs.Neighbours.{ends_term, is_operator_word, AreApart, AreRead}
use Rattle.spdx_canonical.proofs.Terms.{Stops, Opens, says_nil, opens_name, license_term, exception_term, license_ref_term, addition_ref_term}
use Rattle.spdx_canonical.proofs.Read.{no_license_behind, no_addition_behind, clash}
use Rattle.spdx_canonical.proofs.Says.{no_both, Follow, sign, name, spaced}

abbrev pub words_text : List Word → List ℕ
words_text [] = []
words_text (w ∷ ws) = word_text w ++ words_text ws

pub text-append : (xs ys : List Word) → words_text (xs ++ ys) ≡ words_text xs ++ words_text ys
text-append [] ys = refl
text-append (x ∷ xs) ys = ap (λ (t : List ℕ). word_text x ++ t) (text-append xs ys) ∙ sym (append_assoc (word_text x) (words_text xs) (words_text ys))

-- behind a name comes what ends a run
stops : (last : Word) (ws : List Word) → ends_term last ≡ true → AreApart last ws → Stops is_run_byte (words_text ws)
stops last [] e a = tt
stops last (Plus ∷ ws) e a = refl
stops last (OpenParen ∷ ws) e a = refl
stops last (CloseParen ∷ ws) e a = refl
stops last (With ∷ ws) e a = refl
stops last (And ∷ ws) e a = refl
stops last (Or ∷ ws) e a = refl
stops last (Spdx r ∷ ws) e a = absurd (no_license_behind last e a.0)
stops last (LicenseRef d y ∷ ws) e a = absurd (no_license_behind last e a.0)
stops last (Exception r ∷ ws) e a = absurd (no_addition_behind last e a.0)
stops last (AdditionRef d y ∷ ws) e a = absurd (no_addition_behind last e a.0)
stops last (Unknown x ∷ ws) e a = absurd (clash (ends_term last) e a.0)

module _ (c : Rows) (well : IsTrue (is_well_formed c)) (m : ParseMode) where
  -- behind an operator comes no plus and no white space
  opens : (last : Word) (ws : List Word) → is_operator_word last ≡ true → AreApart last ws → AreRead c ws → Opens c well m (words_text ws)
  opens last [] e a d = tt
  opens last (Plus ∷ ws) e a d = absurd (no_both last e a.0)
  opens last (OpenParen ∷ ws) e a d = (lit< tt, refl, refl)
  opens last (CloseParen ∷ ws) e a d = (lit< tt, refl, refl)
  opens last (With ∷ ws) e a d = absurd (clash (is_operator_word last) e a.0)
  opens last (And ∷ ws) e a d = absurd (clash (is_operator_word last) e a.0)
  opens last (Or ∷ ws) e a d = absurd (clash (is_operator_word last) e a.0)
  opens last (Spdx r ∷ ws) e a d = opens_name c well m r.name (words_text ws) (license_term c well m r.name r d.0).first
  opens last (LicenseRef x y ∷ ws) e a d = opens_name c well m (reference_text (codes "LicenseRef-") x y) (words_text ws) (license_ref_term c well m x y d.0).first
  opens last (Exception r ∷ ws) e a d = opens_name c well m r.name (words_text ws) (exception_term c well m r.name r d.0.0 d.0.1).first
  opens last (AdditionRef x y ∷ ws) e a d = opens_name c well m (reference_text (codes "AdditionRef-") x y) (words_text ws) (addition_ref_term c well m x y d.0).first
  opens last (Unknown x ∷ ws) e a d = absurd d.0

  -- words that an expression has side by side are read from their text
  pub plain : (last : Word) (ws : List Word) → AreApart last ws → AreRead c ws → Follow c well m (words_text ws) ws
  plain last [] a d = says_nil c well m
  plain last (Plus ∷ ws) a d = sign c well m 43 (words_text ws) Plus ws (lit< tt) refl refl (plain Plus ws a.1 d.1)
  plain last (OpenParen ∷ ws) a d = sign c well m 40 (words_text ws) OpenParen ws (lit< tt) refl refl (plain OpenParen ws a.1 d.1)
  plain last (CloseParen ∷ ws) a d = sign c well m 41 (words_text ws) CloseParen ws (lit< tt) refl refl (plain CloseParen ws a.1 d.1)
  plain last (With ∷ ws) a d = spaced c well m 87 (73 ∷ 84 ∷ 72 ∷ []) (words_text ws) With ws (lit< tt) refl refl refl (opens With ws refl a.1 d.1) (plain With ws a.1 d.1)
  plain last (And ∷ ws) a d = spaced c well m 65 (78 ∷ 68 ∷ []) (words_text ws) And ws (lit< tt) refl refl refl (opens And ws refl a.1 d.1) (plain And ws a.1 d.1)
  plain last (Or ∷ ws) a d = spaced c well m 79 (82 ∷ []) (words_text ws) Or ws (lit< tt) refl refl refl (opens Or ws refl a.1 d.1) (plain Or ws a.1 d.1)
  plain last (Spdx r ∷ ws) a d = name c well m r.name (words_text ws) (Spdx r) ws (license_term c well m r.name r d.0) (stops (Spdx r) ws refl a.1) (plain (Spdx r) ws a.1 d.1)
  plain last (LicenseRef x y ∷ ws) a d = name c well m (reference_text (codes "LicenseRef-") x y) (words_text ws) (LicenseRef x y) ws (license_ref_term c well m x y d.0) (stops (LicenseRef x y) ws refl a.1) (plain (LicenseRef x y) ws a.1 d.1)
  plain last (Exception r ∷ ws) a d = name c well m r.name (words_text ws) (Exception r) ws (exception_term c well m r.name r d.0.0 d.0.1) (stops (Exception r) ws refl a.1) (plain (Exception r) ws a.1 d.1)
  plain last (AdditionRef x y ∷ ws) a d = name c well m (reference_text (codes "AdditionRef-") x y) (words_text ws) (AdditionRef x y) ws (addition_ref_term c well m x y d.0) (stops (AdditionRef x y) ws refl a.1) (plain (AdditionRef x y) ws a.1 d.1)
  plain last (Unknown x ∷ ws) a d = absurd d.0
