-- Which rule gives the word at the front of a text.
use Rattle.std.proofs.Common.{◌≡◌, ℕ, ◌<◌, Bool, true, false, ◌&&◌, List, [], ◌∷◌, length, Some, None, Result, Ok, Err, refl, ◌∙◌, ap, arith}
use Rattle.std.specs.Prelude.{ok_or}
use Rattle.spdx_requirement.specs.Rows.{Rows}
use Rattle.spdx_lexer.specs.declared.token.ParseMode.{ParseMode}
use Rattle.spdx_lexer.specs.Words.{Word, Fault, UnknownTerm}
use Rattle.spdx_lexer.specs.Text.{run_at}
use Rattle.spdx_lexer.specs.Lexeme.{first_of, sign, lexeme_of, lexeme}
use Rattle.spdx_lexer.specs.Groups.{Found, exact, referred, caseless, imprecise, unknown, grouped}
use Rattle.spdx_lexer.proofs.Table.{lexeme_grouped}

pub and_both : (a b : Bool) → a && b ≡ true → (a ≡ true) × (b ≡ true)
and_both true b h = (refl, h)
and_both false b h = absurd cc

module _ (c : Rows) (m : ParseMode) (text : List ℕ) where
  word_is : (run : List ℕ) (o : Found) → 0 < length run → lexeme_of text run None o ≡ ok_or o (UnknownTerm, length run)
  word_is [] o l = absurd (omega arith)
  word_is (b ∷ run) o l = refl

  pub lexeme_word : sign m text ≡ None → (run : List ℕ) → run_at text ≡ run → 0 < length run → lexeme c m text ≡ ok_or (grouped c m text run) (UnknownTerm, length run)
  lexeme_word s run r l =
      lexeme_grouped c m text
      ∙ ap (λ (f : Found). lexeme_of text (run_at text) f (grouped c m text (run_at text))) s
      ∙ ap (λ (x : List ℕ). lexeme_of text x None (grouped c m text x)) r
      ∙ word_is run (grouped c m text run) l

  -- what the rules give, where the exact one gives e and that of references f
  abbrev ruled : List ℕ → Found → Found → Result (Word × ℕ) (Fault × ℕ)
  ruled run e f = ok_or (first_of (first_of (e ∷ f ∷ caseless c m run ∷ []) ∷ imprecise c m text ∷ unknown m run ∷ [])) (UnknownTerm, length run)

  pub lexeme_exact : sign m text ≡ None → (run : List ℕ) → run_at text ≡ run → 0 < length run → (f : Word × ℕ) → exact c run ≡ Some f → lexeme c m text ≡ Ok f
  lexeme_exact s run r l f e = lexeme_word s run r l ∙ ap (λ (o : Found). ruled run o (referred run)) e

  pub lexeme_referred : sign m text ≡ None → (run : List ℕ) → run_at text ≡ run → 0 < length run → (f : Word × ℕ) → exact c run ≡ None → referred run ≡ Some f → lexeme c m text ≡ Ok f
  lexeme_referred s run r l f e h = lexeme_word s run r l ∙ ap (λ (o : Found). ruled run o (referred run)) e ∙ ap (λ (o : Found). ruled run None o) h

  -- none of them, and the mode allows nothing besides
  pub lexeme_none : sign m text ≡ None → (run : List ℕ) → run_at text ≡ run → 0 < length run → exact c run ≡ None → referred run ≡ None → ruled run None None ≡ Err (UnknownTerm, length run) → lexeme c m text ≡ Err (UnknownTerm, length run)
  lexeme_none s run r l e h n = lexeme_word s run r l ∙ ap (λ (o : Found). ruled run o (referred run)) e ∙ ap (λ (o : Found). ruled run None o) h ∙ n
