-- One item of a reading, and the reading of what follows it.
use Rattle.std.proofs.Common.{◌≡◌, ℕ, zero, suc, ◌+◌, ◌<◌, true, false, cond, ◌&&◌, ◌==◌, nat_lt, List, [], ◌∷◌, drop, Result, Ok, Err, refl, sym, ◌∙◌, ap, subst, arith, IfOk, lt-ltb}
use Rattle.std.proofs.Math.Seq.{drop-nil}
use Rattle.std.proofs.lemmas.List.{drop-drop}
use Rattle.std.proofs.lemmas.Bool.{le-ltb}
use Rattle.spdx_requirement.specs.Rows.{Rows}
use Rattle.spdx_catalogue.specs.RowRules.{is_well_formed}
use Rattle.spdx_lexer.specs.declared.token.ParseMode.{ParseMode}
use Rattle.spdx_lexer.specs.Text.{white}
use Rattle.spdx_lexer.specs.Words.{Word, Fault, SeparatedPlus, Item, span}
use Rattle.spdx_lexer.specs.Lexeme.{lexeme}
use Rattle.spdx_lexer.specs.Reading as Reading
use Rattle.spdx_lexer.specs.Reading.{items, reading}
use Rattle.spdx_lexer.proofs.Found.{lexeme_long}

-- the item at the place, and what `more` reads of what follows it; behind a fault there is nothing
abbrev pub then : (ℕ → List ℕ → List Item) → ℕ → List ℕ → Result (Word × ℕ) (Fault × ℕ) → List Item
then more at text (Ok found) = Ok (found.0, span at found.1) ∷ more (at + found.1) (drop found.1 text)
then more at text (Err fault) = Err (fault.0, span at fault.1) ∷ []

abbrev pub behind : Rows → ParseMode → (ℕ → List ℕ → List Item) → ℕ → ℕ → List ℕ → List Item
behind c m more at gap [] = []
behind c m more at gap (b ∷ text) =
    cond (nat_lt 0 gap && b == 43)
    (Err (SeparatedPlus, span at gap) ∷ [])
    (then more (at + gap) (b ∷ text) (lexeme c m (b ∷ text)))

-- a place is not in front of itself, and is in front of those behind it
here : (at : ℕ) → nat_lt at at ≡ false
here at = le-ltb at at (omega arith)

before : (at k : ℕ) → nat_lt at (at + suc k) ≡ true
before at k = lt-ltb at (at + suc k) (omega arith)

module _ (c : Rows) (m : ParseMode) where
  -- behind bytes that were read before, the reading of the rest
  skipped : (k at : ℕ) (text : List ℕ) → items c m (at + k) at text ≡ reading c m (at + k) (drop k text)
  unfolding reading
  skipped zero at text = let same : at + 0 ≡ at = omega arith in subst (λ i. items c m i at text ≡ items c m i i text) (sym same) refl
  skipped (suc k) at [] = refl
  skipped (suc k) at (b ∷ text) =
      let next : at + suc k ≡ (at + 1) + k = omega arith in
      ap (λ t. cond t (items c m (at + suc k) (at + 1) text) (Reading.behind c m (λ i. items c m i (at + 1) text) at (white (b ∷ text)) (drop (white (b ∷ text)) (b ∷ text)))) (before at k)
      ∙ subst (λ i. items c m i (at + 1) text ≡ items c m i i (drop k text)) (sym next) (skipped k (at + 1) text)

module _ (c : Rows) (well : is_well_formed c ≡ true) (m : ParseMode) where
  -- what follows an item of a byte or more
  then_is : (b : ℕ) (text : List ℕ) (at gap : ℕ) (r : Result (Word × ℕ) (Fault × ℕ)) → IfOk r (λ w. 0 < w.1) → Reading.go_on (λ next. items c m next (at + 1) text) (at + gap) r ≡ then (reading c m) (at + gap) (drop gap (b ∷ text)) r
  then_is b text at gap (Ok (w, zero)) h = absurd (omega arith)
  then_is b text at gap (Ok (w, suc n)) h =
      let place : (at + gap) + suc n ≡ (at + 1) + (gap + n) = omega arith in
      let taken : gap + suc n ≡ suc (gap + n) = omega arith in
      let rest : drop (suc n) (drop gap (b ∷ text)) ≡ drop (gap + n) text = drop-drop (suc n) gap (b ∷ text) ∙ ap (λ k. drop k (b ∷ text)) taken in
      let more : items c m ((at + gap) + suc n) (at + 1) text ≡ reading c m ((at + gap) + suc n) (drop (suc n) (drop gap (b ∷ text))) =
      subst (λ i. items c m i (at + 1) text ≡ reading c m i (drop (suc n) (drop gap (b ∷ text)))) (sym place)
      (skipped c m (gap + n) (at + 1) text ∙ ap (reading c m ((at + 1) + (gap + n))) (sym rest)) in
      ap (λ (xs : List Item). Ok (w, span (at + gap) (suc n)) ∷ xs) more
  then_is b text at gap (Err x) h = refl

  behind_is : (b : ℕ) (text : List ℕ) (at gap : ℕ) (t : List ℕ) → drop gap (b ∷ text) ≡ t → Reading.behind c m (λ next. items c m next (at + 1) text) at gap t ≡ behind c m (reading c m) at gap t
  behind_is b text at gap [] e = refl
  behind_is b text at gap (x ∷ t) e =
      ap (λ (xs : List Item). cond (nat_lt 0 gap && x == 43) (Err (SeparatedPlus, span at gap) ∷ []) xs)
      (then_is b text at gap (lexeme c m (x ∷ t)) (lexeme_long c well m (x ∷ t)) ∙ ap (λ (u : List ℕ). then (reading c m) (at + gap) u (lexeme c m (x ∷ t))) e)

  -- the reading as one item and the reading of the rest
  pub reading_is : (at : ℕ) (text : List ℕ) → reading c m at text ≡ behind c m (reading c m) at (white text) (drop (white text) text)
  unfolding reading
  reading_is at [] = rw (drop-nil (white [])) refl
  reading_is at (b ∷ text) =
      ap (λ t. cond t (items c m at (at + 1) text) (Reading.behind c m (λ next. items c m next (at + 1) text) at (white (b ∷ text)) (drop (white (b ∷ text)) (b ∷ text)))) (here at)
      ∙ behind_is b text at (white (b ∷ text)) (drop (white (b ∷ text)) (b ∷ text)) refl
