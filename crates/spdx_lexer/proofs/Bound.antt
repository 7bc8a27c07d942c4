-- How many items a reading has.
use Rattle.std.proofs.Common.{ℕ, suc, ◌+◌, ◌≤◌, Bool, true, false, cond, ◌&&◌, ◌==◌, nat_lt, List, [], ◌∷◌, length, drop, Result, Ok, Err, arith}
use Rattle.spdx_requirement.specs.Rows.{Rows}
use Rattle.spdx_lexer.specs.declared.token.ParseMode.{ParseMode}
use Rattle.spdx_lexer.specs.Text.{white}
use Rattle.spdx_lexer.specs.Words.{Word, Fault, SeparatedPlus, Item, span}
use Rattle.spdx_lexer.specs.Lexeme.{lexeme}
use Rattle.spdx_lexer.specs.Reading.{go_on, behind, items, reading}

module _ (c : Rows) (m : ParseMode) where
  go_on_few : (more : ℕ → List Item) (n at : ℕ) (r : Result (Word × ℕ) (Fault × ℕ)) → ((next : ℕ) → length (more next) ≤ n) → length (go_on more at r) ≤ suc n
  go_on_few more n at (Ok w) h = omega (arith, h (at + w.1))
  go_on_few more n at (Err x) h = omega arith

  tested_few : (b : Bool) (xs ys : List Item) (n : ℕ) → length xs ≤ n → length ys ≤ n → length (cond b xs ys) ≤ n
  tested_few true xs ys n h k = h
  tested_few false xs ys n h k = k

  behind_few : (more : ℕ → List Item) (n at gap : ℕ) (text : List ℕ) → ((next : ℕ) → length (more next) ≤ n) → length (behind c m more at gap text) ≤ suc n
  behind_few more n at gap [] h = omega arith
  behind_few more n at gap (b ∷ text) h = tested_few (nat_lt 0 gap && b == 43) (Err (SeparatedPlus, span at gap) ∷ []) _ (suc n) (omega arith) (go_on_few more n (at + gap) (lexeme c m (b ∷ text)) h)

  few : (from at : ℕ) (text : List ℕ) → length (items c m from at text) ≤ length text
  few from at [] = omega arith
  few from at (b ∷ text) =
      tested_few (nat_lt at from) _ _ (suc (length text)) (omega (arith, few from (at + 1) text))
      (behind_few (λ next. items c m next (at + 1) text) (length text) at (white (b ∷ text)) (drop (white (b ∷ text)) (b ∷ text)) (λ next. few next (at + 1) text))

  -- no more items than bytes
  pub reading_few : (at : ℕ) (text : List ℕ) → length (reading c m at text) ≤ length text
  unfolding reading
  reading_few at text = few at at text
