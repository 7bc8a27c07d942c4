-- The bytes that stand for a character.
use Rattle.std.proofs.Common.{◌≡◌, ◌≢◌, ℕ, zero, suc, ◌+◌, ◌-◌, ◌*◌, ◌^◌, ◌<◌, ◌≤◌, List, [], ◌∷◌, ◌++◌, All, Bool, true, false, not, ◌&&◌, cond, eqb, ltb, flat_map, chars, codes, refl, sym, ap, ◌∙◌, subst, append_assoc, arith}
use Rattle.std.proofs.lemmas.Bool.Decides.{nat_tests}
use Rattle.std.proofs.Math.Utf8.{encode, encodes}
use lib.Utf8.{scalar, scalars, scalar_fits}
use Rattle.std.specs.Char.{digit_value}
use Rattle.std.specs.Str.{IsAscii}
use Rattle.std.specs.Str.Parse.{AllDigits, digits_value, digits_value_after}
use Rattle.std.specs.Fmt.{digits}
use Rattle.std.proofs.lemmas.Fmt.{digits_is_IsNumeral}
use Rattle.ucd_table.specs.Rows.{value_in}
use Rattle.ucd_category.specs.GeneralCategory.{general_category}
use Rattle.ucd_category.specs.GeneralCategoryRows.{general_category_rows}
use Rattle.foreign_text.specs.Hidden.{is_hidden}

-- ---- a choice has what each of its two has

pub choose : (P : List ℕ → Type 0) (b : Bool) (xs ys : List ℕ) → (b ≡ true → P xs) → (b ≡ false → P ys) → P (cond b xs ys)
choose P true xs ys h k = h refl
choose P false xs ys h k = k refl

pub same : (c n : ℕ) → eqb c n ≡ true → c ≡ n
same c n = grind (arith, nat_tests)

pub other : (c n : ℕ) → c ≢ n → eqb c n ≡ false
other c n = grind (arith, nat_tests)

-- ---- bytes among which one is not

abbrev pub Lacks : ℕ → List ℕ → Type 0
Lacks x [] = Unit {0}
Lacks x (b ∷ bs) = (eqb b x ≡ false) × Lacks x bs

pub lacks-append : (x : ℕ) (xs ys : List ℕ) → Lacks x xs → Lacks x ys → Lacks x (xs ++ ys)
lacks-append x [] ys h k = k
lacks-append x (b ∷ bs) ys h k = (h.0, lacks-append x bs ys h.1 k)

high : (b x : ℕ) → 128 ≤ b → x < 128 → eqb b x ≡ false
high b x = grind (arith, nat_tests)

pub lacks-encode : (x c : ℕ) → x < 128 → eqb c x ≡ false → Lacks x (encode c)
unfolding encode
lacks-encode x c l h =
    choose (Lacks x) (ltb c 128) _ _ (λ _. (h, tt))
    (λ _. choose (Lacks x) (ltb c 2048) _ _ (λ _. (high _ x (omega arith) l, (high _ x (omega arith) l, tt)))
    (λ _. choose (Lacks x) (ltb c 65536) _ _ (λ _. (high _ x (omega arith) l, (high _ x (omega arith) l, (high _ x (omega arith) l, tt)))) (λ _. (high _ x (omega arith) l, (high _ x (omega arith) l, (high _ x (omega arith) l, (high _ x (omega arith) l, tt)))))))

-- a byte that is no digit is not among digits
lacks-digits : (x : ℕ) (ds : List ℕ) → 16 ≤ digit_value x → AllDigits 16 ds → Lacks x ds
lacks-digits x [] h d = tt
lacks-digits x (c ∷ cs) h d =
    (other c x (λ e. let l : digit_value x < 16 = subst (λ (n : ℕ). digit_value n < 16) e d.0 in omega (arith, l, h)), lacks-digits x cs h d.1)

-- ---- hexadecimal digits

pub hex_digits : (upper : Bool) (n : ℕ) → n < 16 ^ 64 → AllDigits 16 (digits 16 upper n)
hex_digits upper n h = (digits_is_IsNumeral 16 upper (omega arith) (omega arith) n h).0.1

pub hex_value : (upper : Bool) (n : ℕ) → n < 16 ^ 64 → digits_value 16 (digits 16 upper n) ≡ n
hex_value upper n h = (digits_is_IsNumeral 16 upper (omega arith) (omega arith) n h).1

pub scalar_small : (c : ℕ) → scalar c ≡ true → c < 16 ^ 64
scalar_small c s = let l = scalar_fits c s in omega (arith, l)

pub lacks-hex : (x : ℕ) (upper : Bool) (n : ℕ) → 16 ≤ digit_value x → n < 16 ^ 64 → Lacks x (digits 16 upper n)
lacks-hex x upper n h l = lacks-digits x (digits 16 upper n) h (hex_digits upper n l)

-- ---- what is printed is shown

shown_from : ℕ → Bool
shown_from zero = true
shown_from (suc n) = not (is_hidden (32 + n)) && shown_from n

printed : shown_from 95 ≡ true
unfolding general_category value_in general_category_rows shown_from
printed = refl

pub two : (a b : Bool) → a && b ≡ true → (a ≡ true) × (b ≡ true)
two true b e = (refl, e)
two false b e = grind arith

denied : (b : Bool) → not b ≡ true → b ≡ false
denied true e = grind arith
denied false e = refl

below : (k n : ℕ) → k < suc n → eqb k n ≡ false → k < n
below k n = grind (arith, nat_tests)

digit_from : (b : ℕ) → digit_value b < 16 → 32 ≤ b
digit_from b = grind (arith, nat_tests)

digit_to : (b : ℕ) → digit_value b < 16 → b < 127
digit_to b = grind (arith, nat_tests)

shown_at : (n k : ℕ) → shown_from (suc n) ≡ true → k < suc n → (t : Bool) → eqb k n ≡ t → (shown_from n ≡ true → k < n → is_hidden (32 + k) ≡ false) → is_hidden (32 + k) ≡ false
unfolding shown_from
shown_at n k e l true h rest =
    ap (λ (m : ℕ). is_hidden (32 + m)) (same k n h) ∙ denied (is_hidden (32 + n)) (two (not (is_hidden (32 + n))) (shown_from n) e).0
shown_at n k e l false h rest = rest (two (not (is_hidden (32 + n))) (shown_from n) e).1 (below k n l h)

shown_below : (n k : ℕ) → shown_from n ≡ true → k < n → is_hidden (32 + k) ≡ false
shown_below zero k e l = absurd (omega arith)
shown_below (suc n) k e l = shown_at n k e l (eqb k n) refl (λ f m. shown_below n k f m)

-- a byte that is printed
pub record IsPrinted (b : ℕ) : Type 0 where
  pub from : 32 ≤ b
  pub to : b < 127

pub printed_shown : (b : ℕ) → IsPrinted b → is_hidden b ≡ false
printed_shown b h =
    let e : 32 + (b - 32) ≡ b = omega (arith, h.from) in
    ap is_hidden (sym e) ∙ shown_below 95 (b - 32) printed (omega (arith, h.from, h.to))

digit_printed : (b : ℕ) → digit_value b < 16 → IsPrinted b
digit_printed b h = record { from = digit_from b h; to = digit_to b h }

abbrev pub ArePrinted : List ℕ → Type 0
ArePrinted [] = Unit {0}
ArePrinted (b ∷ bs) = IsPrinted b × ArePrinted bs

pub printed-append : (xs ys : List ℕ) → ArePrinted xs → ArePrinted ys → ArePrinted (xs ++ ys)
printed-append [] ys h k = k
printed-append (b ∷ bs) ys h k = (h.0, printed-append bs ys h.1 k)

digits_printed : (ds : List ℕ) → AllDigits 16 ds → ArePrinted ds
digits_printed [] d = tt
digits_printed (c ∷ cs) d = (digit_printed c d.0, digits_printed cs d.1)

pub hex_printed : (upper : Bool) (n : ℕ) → n < 16 ^ 64 → ArePrinted (digits 16 upper n)
hex_printed upper n h = digits_printed (digits 16 upper n) (hex_digits upper n h)

-- ASCII is its own characters
pub printed_ascii : (bs : List ℕ) → ArePrinted bs → IsAscii bs
printed_ascii [] h i = omega arith
printed_ascii (b ∷ bs) h zero = omega (arith, h.0.to)
printed_ascii (b ∷ bs) h (suc i) = printed_ascii bs h.1 i

pub one_ascii : (b : ℕ) → b < 128 → IsAscii (b ∷ [])
one_ascii b h zero = omega (arith, h)
one_ascii b h (suc i) = omega arith

pub hidden_newline : is_hidden 10 ≡ true
unfolding general_category value_in general_category_rows
hidden_newline = refl
