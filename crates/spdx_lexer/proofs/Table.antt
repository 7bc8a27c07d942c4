-- The rules in their order find what they find in groups.
use Rattle.std.proofs.Common.{◌≡◌, ℕ, ◌<◌, ◌∙◌, Bool, true, false, List, [], ◌∷◌, length, option_map, Some, None, refl, sym, ap, arith}
use Rattle.std.specs.Prelude.{codes, ok_or}
use Rattle.spdx_requirement.specs.Rows.{Rows}
use Rattle.spdx_catalogue.specs.LookUps.{listed, listed_exception, listed_caseless, listed_exception_caseless}
use Rattle.spdx_lexer.specs.declared.token.ParseMode.{ParseMode}
use Rattle.spdx_lexer.specs.Words.{Spdx, Exception, LicenseRef, AdditionRef, UnknownTerm}
use Rattle.spdx_lexer.specs.Text.{run_at}
use Rattle.spdx_lexer.specs.Lexeme.{first_of, sign, whole, operator, reference, document_reference, rules, lexeme_of, lexeme}
use Rattle.spdx_lexer.specs.Groups.{Found, exact, referred, caseless, imprecise, unknown, grouped, grouped_lexeme}
use Rattle.spdx_lexer.proofs.Allowed.{if_allowed}

in_groups : (e1 e2 e3 d1 r1 d2 r2 : Found) (b : Bool) (k1 k2 i u : Found)
    → first_of (e1 ∷ e2 ∷ e3 ∷ d1 ∷ r1 ∷ d2 ∷ r2 ∷ if_allowed b k1 ∷ if_allowed b k2 ∷ i ∷ u ∷ [])
    ≡ first_of (first_of (first_of (e1 ∷ e2 ∷ e3 ∷ []) ∷ first_of (first_of (d1 ∷ r1 ∷ []) ∷ first_of (d2 ∷ r2 ∷ []) ∷ []) ∷ if_allowed b (first_of (k1 ∷ k2 ∷ [])) ∷ []) ∷ i ∷ u ∷ [])
in_groups (Some _) e2 e3 d1 r1 d2 r2 b k1 k2 i u = refl
in_groups None (Some _) e3 d1 r1 d2 r2 b k1 k2 i u = refl
in_groups None None (Some _) d1 r1 d2 r2 b k1 k2 i u = refl
in_groups None None None (Some _) r1 d2 r2 b k1 k2 i u = refl
in_groups None None None None (Some _) d2 r2 b k1 k2 i u = refl
in_groups None None None None None (Some _) r2 b k1 k2 i u = refl
in_groups None None None None None None (Some _) b k1 k2 i u = refl
in_groups None None None None None None None false k1 k2 i u = refl
in_groups None None None None None None None true (Some _) k2 i u = refl
in_groups None None None None None None None true None (Some _) i u = refl
in_groups None None None None None None None true None None i u = refl

-- what is found exactly comes first, whatever the others find
pub exact_first : (e r k i u : Found) → first_of (first_of (e ∷ r ∷ k ∷ []) ∷ i ∷ u ∷ []) ≡ first_of (e ∷ first_of (r ∷ k ∷ i ∷ u ∷ []) ∷ [])
exact_first (Some _) r k i u = refl
exact_first None (Some _) k i u = refl
exact_first None None (Some _) i u = refl
exact_first None None None (Some _) u = refl
exact_first None None None None (Some _) = refl
exact_first None None None None None = refl

alone : (f : Found) → first_of (f ∷ []) ≡ f
alone (Some _) = refl
alone None = refl

unsigned : (text run : List ℕ) (f : Found) → 0 < length run → lexeme_of text run None f ≡ ok_or f (UnknownTerm, length run)
unsigned text [] f some = absurd (omega arith)
unsigned text (b ∷ run) f some = refl

module _ (c : Rows) (m : ParseMode) (text : List ℕ) where
  pub rules_grouped : (run : List ℕ) → rules c m text run ≡ grouped c m text run
  rules_grouped run =
      in_groups (whole run (operator run)) (whole run (option_map Spdx (listed c.licenses run))) (whole run (option_map Exception (listed_exception c.exceptions run)))
      (document_reference (codes "LicenseRef-") LicenseRef run) (reference (codes "LicenseRef-") LicenseRef run)
      (document_reference (codes "AdditionRef-") AdditionRef run) (reference (codes "AdditionRef-") AdditionRef run)
      m.allow_caseless_ids (whole run (option_map Spdx (listed_caseless c.licenses run))) (whole run (option_map Exception (listed_exception_caseless c.exceptions run)))
      (imprecise c m text) (unknown m run)

  pub lexeme_grouped : lexeme c m text ≡ grouped_lexeme c m text
  lexeme_grouped = ap (lexeme_of text (run_at text) (sign m text)) (rules_grouped (run_at text))

  -- the word where there is no sign and no exact word, by what else is found
  pub inexact_lexeme : (run : List ℕ) (f : Found) → run ≡ run_at text → 0 < length run → sign m text ≡ None → exact c run ≡ None
      → f ≡ first_of (referred run ∷ caseless c m run ∷ imprecise c m text ∷ unknown m run ∷ [])
      → ok_or f (UnknownTerm, length run) ≡ grouped_lexeme c m text
  inexact_lexeme run f at_front some no_sign no_exact found =
      let others : Found = first_of (referred run ∷ caseless c m run ∷ imprecise c m text ∷ unknown m run ∷ []) in
      let first : grouped c m text run ≡ first_of (exact c run ∷ others ∷ []) = exact_first (exact c run) (referred run) (caseless c m run) (imprecise c m text) (unknown m run) in
      let last : first_of (exact c run ∷ others ∷ []) ≡ others = ap (λ (e : Found). first_of (e ∷ others ∷ [])) no_exact ∙ alone others in
      ap (λ (o : Found). ok_or o (UnknownTerm, length run)) (found ∙ sym (first ∙ last))
      ∙ sym (unsigned text run (grouped c m text run) some)
      ∙ ap (λ (s : Found). lexeme_of text run s (grouped c m text run)) (sym no_sign)
      ∙ ap (λ (r : List ℕ). lexeme_of text r (sign m text) (grouped c m text r)) at_front
