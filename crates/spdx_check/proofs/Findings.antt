-- The finding that is found is the one that the definitions give.
use Rattle.std.proofs.Common.{◌≡◌, ℕ, Bool, true, false, cond, List, Option, Some, None, Ok, Err, refl, sym, ◌∙◌, ap, subst}
use Rattle.std.specs.Prelude.{IsUtf8}
use Rattle.std.specs.Str.{is_utf8}
use Rattle.std.proofs.lemmas.Str.{IsUtf8-from_is_utf8, is_utf8-from_IsUtf8}
use Rattle.spdx_requirement.specs.Rows.{Rows}
use Rattle.spdx_lexer.specs.declared.token.ParseMode.{ParseMode}
use Rattle.spdx_lexer.specs.Words.{Fault, Span}
use Rattle.spdx_parser.specs.Faults.{IsFaultOf}
use Rattle.spdx_canonical.specs.Fix.{Reads}
use Rattle.spdx_evaluation.specs.Outcome.{Outcome, outcome}
use Rattle.spdx_evaluation.proofs.Outcome.{Means, outcome_means, fault_found}
use Rattle.spdx_list.specs.Files.{ReplacementRow}
use Rattle.spdx_check.specs.Finding.{Wrong, wrong_in, no_text, IsFinding, is_accepted, is_refused, is_no_text, IsTheFinding}
use Rattle.spdx_check.specs.Found.{fix_of, finding_by, finding_of}
use Rattle.spdx_check.proofs.Fixes.{reads, reads_not, fix_given, fix_only}

module _ (c : Rows) (replacements : List ReplacementRow) (m : ParseMode) (bytes : List ℕ) where
  abbrev seen : Bool → Outcome → Option Wrong
  seen b o = cond b (finding_by c replacements bytes o) (Some (no_text bytes))

  no_text_test : (b : Bool) → is_utf8 bytes ≡ b → ¬ (IsUtf8 bytes) → b ≡ false
  no_text_test true e h = absurd (h (IsUtf8-from_is_utf8 bytes e))
  no_text_test false e h = refl

  accepted : (o : Outcome) → outcome c m bytes ≡ o → Reads c m bytes → finding_by c replacements bytes o ≡ None
  accepted (Ok t) e h = refl
  accepted (Err fault) e h = absurd (reads_not c m bytes fault e h)

  -- what is found, by each reason for it
  pub accepted_is : IsUtf8 bytes → Reads c m bytes → finding_of c replacements m bytes ≡ None
  unfolding finding_of
  accepted_is u h = ap (λ b. seen b (outcome c m bytes)) (is_utf8-from_IsUtf8 bytes u) ∙ accepted (outcome c m bytes) refl h

  pub refused_is : (fault : Fault) (s : Span) → IsUtf8 bytes → IsFaultOf c m bytes fault s → finding_of c replacements m bytes ≡ Some (wrong_in c replacements bytes fault s (fix_of c bytes))
  unfolding finding_of
  refused_is fault s u h = ap (λ b. seen b (outcome c m bytes)) (is_utf8-from_IsUtf8 bytes u) ∙ ap (seen true) (fault_found c m bytes fault s h)

  pub no_text_is : ¬ (IsUtf8 bytes) → finding_of c replacements m bytes ≡ Some (no_text bytes)
  unfolding finding_of
  no_text_is h = ap (λ b. seen b (outcome c m bytes)) (no_text_test (is_utf8 bytes) refl h)

  -- the same of bytes that are read as a text
  pub accepted_there : (text : List ℕ) → text ≡ bytes → IsUtf8 bytes → Reads c m text → finding_of c replacements m bytes ≡ None
  accepted_there text e u h = accepted_is u (subst (λ xs. Reads c m xs) e h)

  pub refused_there : (text original : List ℕ) (fault : Fault) (s : Span) → text ≡ bytes → IsUtf8 bytes → original ≡ text → IsFaultOf c m text fault s →
      finding_of c replacements m bytes ≡ Some (wrong_in c replacements original fault s (fix_of c original))
  refused_there text original fault s e u same h =
      refused_is fault s u (subst (λ xs. IsFaultOf c m xs fault s) e h) ∙ ap (λ xs. Some (wrong_in c replacements xs fault s (fix_of c xs))) (sym (same ∙ e))

  only : (found : Option Wrong) → IsFinding c replacements m bytes found → found ≡ finding_of c replacements m bytes
  only _ (is_accepted u h) = sym (accepted_is u h)
  only _ (is_refused fault s fix u h k) = ap (λ x. Some (wrong_in c replacements bytes fault s x)) (fix_only c bytes fix k) ∙ sym (refused_is fault s u h)
  only _ (is_no_text h) = sym (no_text_is h)

  given_by : (b : Bool) → is_utf8 bytes ≡ b → (o : Outcome) → outcome c m bytes ≡ o → IsFinding c replacements m bytes (seen b o)
  given_by false e o h = is_no_text (λ u. let yes = is_utf8-from_IsUtf8 bytes u in cc)
  given_by true e (Ok t) h = is_accepted (IsUtf8-from_is_utf8 bytes e) (reads c m bytes t h)
  given_by true e (Err fault) h = is_refused fault.0 fault.1 (fix_of c bytes) (IsUtf8-from_is_utf8 bytes e) (subst (Means c m bytes) h (outcome_means c m bytes)) (fix_given c bytes)

  given : IsFinding c replacements m bytes (finding_of c replacements m bytes)
  unfolding finding_of
  given = given_by (is_utf8 bytes) refl (outcome c m bytes) refl

  pub the_finding : IsTheFinding c replacements m bytes (finding_of c replacements m bytes)
  the_finding = record { given = given; only = only }
