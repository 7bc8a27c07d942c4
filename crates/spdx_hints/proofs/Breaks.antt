-- A step of the walk to the break before a place, and of that to the break behind it.
use Rattle.std.proofs.Common.{◌≡◌, ℕ, zero, suc, ◌+◌, ◌-◌, ◌<◌, false, cond, List, length, ◌∙◌, ap, arith, eq-eqb}
use Rattle.std.specs.Prelude.{◌==◌}
use Rattle.std.proofs.Math.Dec.{eqb-suc-zero}
use Rattle.spdx_hints.specs.Phrase.{break_len, last_break, next_break, end_from}

positive : (k : ℕ) → 0 < k → (k == 0) ≡ false
positive zero lt = absurd (omega arith)
positive (suc k) lt = eqb-suc-zero k

module _ (text : List ℕ) where
  pub last_none : (n m : ℕ) → n ≡ suc m → break_len text m ≡ 0 → last_break text n ≡ last_break text m
  last_none n m e none = ap (λ k. last_break text k) e ∙ ap (λ b. cond b (last_break text m) (m + break_len text m)) (eq-eqb (break_len text m) 0 none)

  pub last_some : (n m : ℕ) → n ≡ suc m → 0 < break_len text m → last_break text n ≡ m + break_len text m
  last_some n m e some = ap (λ k. last_break text k) e ∙ ap (λ b. cond b (last_break text m) (m + break_len text m)) (positive (break_len text m) some)

  more : (i : ℕ) → i < length text → length text - i ≡ suc (length text - (i + 1))
  more i lt = omega arith

  pub end_none : (i : ℕ) → i < length text → break_len text i ≡ 0 → end_from text i ≡ end_from text (i + 1)
  end_none i lt none =
      ap (λ k. next_break text k i) (more i lt)
      ∙ ap (λ b. cond b (next_break text (length text - (i + 1)) (i + 1)) i) (eq-eqb (break_len text i) 0 none)

  pub end_some : (i : ℕ) → i < length text → 0 < break_len text i → end_from text i ≡ i
  end_some i lt some =
      ap (λ k. next_break text k i) (more i lt)
      ∙ ap (λ b. cond b (next_break text (length text - (i + 1)) (i + 1)) i) (positive (break_len text i) some)
