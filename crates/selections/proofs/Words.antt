-- Truths in words: what a push and a pop do.
use Rattle.std.proofs.Common.{◌≡◌, ℕ, zero, suc, ◌+◌, ◌-◌, ◌*◌, ◌/◌, ◌%◌, ◌^◌, ◌<◌, ◌≤◌, ◌==◌, Bool, true, false, List, [], ◌∷◌, ◌++◌, length, refl, sym, ◌∙◌, ap, arith, add-one}
use Rattle.selections.specs.Truths.{bits, word_bits, words_bits}
use Rattle.std.proofs.Math.Nat.{pow-suc}
use mir.Val.{bool_byte}

pub length-bits : (n w : ℕ) (rest : List Bool) → length (bits n w rest) ≡ n + length rest
length-bits zero w rest = omega arith
length-bits (suc n) w rest = omega (arith, length-bits n (w / 2) rest)

pub word_is : (n w : ℕ) (rest : List Bool) → n ≡ 64 → bits n w rest ≡ word_bits w rest
unfolding word_bits
word_is n w rest e = ap (λ (m : ℕ). bits m w rest) e

pub length-words_bits : (ws : List ℕ) (rest : List Bool) → length (words_bits ws rest) ≡ 64 * length ws + length rest
length-words_bits [] rest = omega arith
length-words_bits (w ∷ ws) rest =
    let one : length (word_bits w rest) ≡ 64 + length rest = ap length (sym (word_is 64 w rest refl)) ∙ length-bits 64 w rest in
    omega (arith, length-words_bits ws (word_bits w rest), one)

pub words_push : (ws : List ℕ) (w : ℕ) (rest : List Bool) → words_bits (ws ++ w ∷ []) rest ≡ word_bits w (words_bits ws rest)
words_push [] w rest = refl
words_push (x ∷ xs) w rest = words_push xs w (word_bits x rest)

pub pop_bit : (n w : ℕ) (rest : List Bool) → 0 < n → bits n w rest ≡ (w % 2 == 1) ∷ bits (n - 1) (w / 2) rest
pop_bit zero w rest h = absurd (omega arith)
pop_bit (suc n) w rest h = let e : suc n - 1 ≡ n = omega arith in rw e refl

pub pop_word : (old new : List ℕ) (w n : ℕ) → n ≡ 64 → old ≡ new ++ w ∷ [] → words_bits old [] ≡ (w % 2 == 1) ∷ bits (n - 1) (w / 2) (words_bits new [])
pop_word old new w n e h =
    let positive : 0 < n = omega arith in
    ap (λ (ws : List ℕ). words_bits ws []) h ∙ words_push new w [] ∙ sym (word_is n w (words_bits new []) e) ∙ pop_bit n w (words_bits new []) positive

pub push_bit : (n w : ℕ) (b : Bool) (rest : List Bool) → bits (n + 1) (w * 2 + bool_byte b) rest ≡ b ∷ bits n w rest
push_bit n w true rest =
    let e : (w * 2 + 1) % 2 ≡ 1 = omega arith in
    let d : (w * 2 + 1) / 2 ≡ w = omega arith in
    rw (add-one, e, d) refl
push_bit n w false rest =
    let e : (w * 2 + 0) % 2 ≡ 0 = omega arith in
    let d : (w * 2 + 0) / 2 ≡ w = omega arith in
    rw (add-one, e, d) refl

pub pop_two_bits : (n w : ℕ) (rest : List Bool) → 2 ≤ n → bits n w rest ≡ (w % 2 == 1) ∷ (w / 2 % 2 == 1) ∷ bits (n - 2) (w / 4) rest
pop_two_bits n w rest h =
    let fewer : n - 1 - 1 ≡ n - 2 = omega arith in
    let fourth : w / 2 / 2 ≡ w / 4 = omega arith in
    pop_bit n w rest (omega arith)
    ∙ ap (λ (z : List Bool). (w % 2 == 1) ∷ z) (pop_bit (n - 1) (w / 2) rest (omega arith))
    ∙ ap (λ (m : ℕ). (w % 2 == 1) ∷ (w / 2 % 2 == 1) ∷ bits m (w / 2 / 2) rest) fewer
    ∙ ap (λ (v : ℕ). (w % 2 == 1) ∷ (w / 2 % 2 == 1) ∷ bits (n - 2) v rest) fourth

pub fourth_fits : (n w : ℕ) → 2 ≤ n → w < 2 ^ n → w / 4 < 2 ^ (n - 2)
fourth_fits n w h fits =
    let k : n ≡ suc (suc (n - 2)) = omega arith in
    let more : 2 ^ n ≡ 2 ^ (n - 2) * 2 * 2 = ap (λ (m : ℕ). 2 ^ m) k ∙ pow-suc 2 (suc (n - 2)) ∙ ap (λ (m : ℕ). m * 2) (pow-suc 2 (n - 2)) in
    omega (arith, more, fits)
