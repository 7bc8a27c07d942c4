-- The reading of a text whose white space is cut off.
use Rattle.std.proofs.Common.{◌≡◌, ℕ, ◌+◌, ◌-◌, ◌<◌, ◌≤◌, true, false, cond, ◌&&◌, nat_lt, List, [], ◌∷◌, length, drop, Ok, Err, refl, sym, ◌∙◌, ap, arith, length-drop, lt-ltb, ltb-true}
use Rattle.std.proofs.lemmas.Bool.{ltb_from_iff}
use Rattle.spdx_requirement.specs.Rows.{Rows}
use Rattle.spdx_catalogue.specs.RowRules.{is_well_formed}
use Rattle.spdx_lexer.specs.declared.token.ParseMode.{ParseMode}
use Rattle.spdx_lexer.specs.Text.{white, begins_plus}
use Rattle.spdx_lexer.specs.Words.{Word, Fault, SeparatedPlus, Item, Span, span}
use Rattle.spdx_lexer.specs.Lexeme.{lexeme}
use Rattle.spdx_lexer.specs.Reading.{reading}
use Rattle.spdx_lexer.proofs.Unfold.{then, behind, reading_is}

pub reading_nil : (c : Rows) (m : ParseMode) (at : ℕ) → reading c m at [] ≡ []
unfolding reading
reading_nil c m at = refl

-- two tests of the same number
same_test : (i j k l : ℕ) → (i < j → k < l) → (k < l → i < j) → nat_lt i j ≡ nat_lt k l
same_test i j k l f g = ltb_from_iff ((λ e. f (ltb-true i j e)), (λ h. lt-ltb i j (g h)))

-- R is what is left of a text of so many bytes, and T is R without its white space
module _ (c : Rows) (well : is_well_formed c ≡ true) (m : ParseMode) (L : ℕ) (R T : List ℕ) (trimmed : T ≡ drop (white R) R) (h : length R ≤ L) where
  shorter : length T ≡ length R - white R
  shorter = ap length trimmed ∙ length-drop (white R) R

  step : reading c m (L - length R) R ≡ behind c m (reading c m) (L - length R) (white R) T
  step = reading_is c well m (L - length R) R ∙ ap (behind c m (reading c m) (L - length R) (white R)) (sym trimmed)

  pub ends : length T ≡ 0 → reading c m (L - length R) R ≡ []
  ends z = step ∙ none T z
    where
      none : (t : List ℕ) → length t ≡ 0 → behind c m (reading c m) (L - length R) (white R) t ≡ []
      none [] z = refl
      none (b ∷ t) z = absurd (omega arith)

  abbrev here : Span
  here = record { from = L - length R; to = L - length T }

  abbrev there : ℕ → Span
  there n = record { from = L - length T; to = (L - length T) + n }

  spaced : 0 < length T → nat_lt 0 (white R) ≡ nat_lt (L - length R) (L - length T)
  spaced z = same_test 0 (white R) (L - length R) (L - length T) (λ i. omega (arith, shorter)) (λ i. omega (arith, shorter))

  -- what stands at T
  parted : (t : List ℕ) → T ≡ t → 0 < length t → behind c m (reading c m) (L - length R) (white R) t ≡ cond (nat_lt 0 (white R) && begins_plus t) (Err (SeparatedPlus, span (L - length R) (white R)) ∷ []) (then (reading c m) ((L - length R) + white R) t (lexeme c m t))
  parted [] x z = absurd (omega arith)
  parted (b ∷ t) x z = refl

  pub separated : 0 < length T → (nat_lt (L - length R) (L - length T) && begins_plus T) ≡ true → reading c m (L - length R) R ≡ Err (SeparatedPlus, here) ∷ []
  separated z p =
      let to : (L - length R) + white R ≡ L - length T = omega (arith, shorter) in
      let q : (nat_lt 0 (white R) && begins_plus T) ≡ true = ap (λ b. b && begins_plus T) (spaced z) ∙ p in
      step ∙ parted T refl z ∙ ap (λ b. cond b (Err (SeparatedPlus, span (L - length R) (white R)) ∷ []) (then (reading c m) ((L - length R) + white R) T (lexeme c m T))) q
      ∙ ap (λ n. let s : Span = record { from = L - length R; to = n } in let x : Item = Err (SeparatedPlus, s) in x ∷ []) to

  pub joined : 0 < length T → (nat_lt (L - length R) (L - length T) && begins_plus T) ≡ false → reading c m (L - length R) R ≡ then (reading c m) (L - length T) T (lexeme c m T)
  joined z p =
      let to : (L - length R) + white R ≡ L - length T = omega (arith, shorter) in
      let q : (nat_lt 0 (white R) && begins_plus T) ≡ false = ap (λ b. b && begins_plus T) (spaced z) ∙ p in
      step ∙ parted T refl z ∙ ap (λ b. cond b (Err (SeparatedPlus, span (L - length R) (white R)) ∷ []) (then (reading c m) ((L - length R) + white R) T (lexeme c m T))) q
      ∙ ap (λ n. then (reading c m) n T (lexeme c m T)) to

  -- the three ways of a call, where `at` is any place
  pub separated_call : (at : ℕ) → 0 < length T → (nat_lt (L - length R) (L - length T) && begins_plus T) ≡ true → reading c m (L - length R) R ≡ Err (SeparatedPlus, here) ∷ reading c m at []
  separated_call at z p = separated z p ∙ ap (λ (xs : List Item). Err (SeparatedPlus, here) ∷ xs) (sym (reading_nil c m at))

  pub refused_call : (at : ℕ) (f : Fault) (n : ℕ) → 0 < length T → (nat_lt (L - length R) (L - length T) && begins_plus T) ≡ false → lexeme c m T ≡ Err (f, n) → reading c m (L - length R) R ≡ Err (f, there n) ∷ reading c m at []
  refused_call at f n z p e = joined z p ∙ ap (then (reading c m) (L - length T) T) e ∙ ap (λ (xs : List Item). Err (f, there n) ∷ xs) (sym (reading_nil c m at))

  pub taken_call : (w : Word) (n : ℕ) (rest : List ℕ) → 0 < length T → (nat_lt (L - length R) (L - length T) && begins_plus T) ≡ false → lexeme c m T ≡ Ok (w, n) → n ≤ length T → rest ≡ drop n T → reading c m (L - length R) R ≡ Ok (w, there n) ∷ reading c m (L - length rest) rest
  taken_call w n rest z p e l k =
      let more : length rest ≡ length T - n = ap length k ∙ length-drop n T in
      let place : (L - length T) + n ≡ L - length rest = omega (arith, shorter) in
      joined z p ∙ ap (then (reading c m) (L - length T) T) e
      ∙ ap (λ i. let xs : List Item = Ok (w, there n) ∷ reading c m i (drop n T) in xs) place
      ∙ ap (λ (r : List ℕ). let xs : List Item = Ok (w, there n) ∷ reading c m (L - length rest) r in xs) (sym k)
