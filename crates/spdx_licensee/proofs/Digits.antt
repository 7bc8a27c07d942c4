-- Numbers of any length compare as their digits do: the longer is greater, and of equal length the first other digit decides.
use Rattle.std.proofs.Common.{◌≡◌, ℕ, zero, suc, ◌+◌, ◌*◌, ◌^◌, ◌<◌, ◌≤◌, Bool, true, false, List, [], ◌∷◌, length, refl, sym, ap, ◌∙◌, arith}
use Rattle.std.proofs.Math.Nat.{add-mul, mul_assoc, mul-le-mul_right, pow-succ', pow-le-pow_right}
use Rattle.std.proofs.lemmas.Str.{digit_value_digit}
use Rattle.std.specs.Char.{is_ascii_digit, digit_value}
use Rattle.std.specs.List.{list_all}
use Rattle.std.specs.Str.Parse.{digits_value, digits_value_after}
use Rattle.std.specs.Ordering.{nat_cmp, ordering_then, MatchOrdering}
use Rattle.std.specs.declared.cmp.Ordering.{Ordering}
use Rattle.std.specs.declared.cmp.Ordering.TheVariants.{Less, Equal, Greater}
use Rattle.std.specs.Cmp.{ranks, nat_cmp_is}
use Rattle.std.specs.Cmp.Lexicographic.{slice_cmp}
use Rattle.spdx_licensee.specs.Version.{leads_with_zero}

-- what passes of a list passes of its first element and of the rest
pub first_passes : {X : Type 0} (p : X → Bool) (x : X) (xs : List X) → list_all p (x ∷ xs) ≡ true → p x ≡ true
first_passes p x xs h = grind arith

pub rest_passes : {X : Type 0} (p : X → Bool) (x : X) (xs : List X) → list_all p (x ∷ xs) ≡ true → list_all p xs ≡ true
rest_passes p x xs h = grind arith

pub both_pass : {X : Type 0} (p : X → Bool) (x : X) (xs : List X) → p x ≡ true → list_all p xs ≡ true → list_all p (x ∷ xs) ≡ true
both_pass p x xs h k = rw (h, k) refl

digit_range : (c : ℕ) → is_ascii_digit c ≡ true → (48 ≤ c) × (c ≤ 57)
digit_range c h = grind arith

digit_is : (c : ℕ) → is_ascii_digit c ≡ true → digit_value c + 48 ≡ c
digit_is c h = let r = digit_range c h in digit_value_digit c (r.0, r.1)

-- the number by places: each digit counts a power of ten
abbrev placed : List ℕ → ℕ
placed [] = 0
placed (c ∷ cs) = digit_value c * 10 ^ length cs + placed cs

spread : (n d p q r : ℕ) → q ≡ 10 * p → (n * 10 + d) * p + r ≡ n * q + (d * p + r)
spread n d p q r e = rw e (omega (arith, add-mul (n * 10) d p, mul_assoc n 10 p))

after_is : (n : ℕ) (cs : List ℕ) → digits_value_after 10 n cs ≡ n * 10 ^ length cs + placed cs
after_is n [] = omega arith
after_is n (c ∷ cs) =
    after_is (n * 10 + digit_value c) cs ∙ spread n (digit_value c) (10 ^ length cs) (10 ^ suc (length cs)) (placed cs) (pow-succ' 10 (length cs))

value_is : (cs : List ℕ) → digits_value 10 cs ≡ placed cs
value_is cs = omega (arith, after_is 0 cs)

-- fewer than the power of ten that has one digit more
bound : (cs : List ℕ) → list_all is_ascii_digit cs ≡ true → placed cs < 10 ^ length cs
bound [] h = omega arith
bound (c ∷ cs) h =
    let d = digit_is c (first_passes is_ascii_digit c cs h) in
    let r = digit_range c (first_passes is_ascii_digit c cs h) in
    let few : digit_value c ≤ 9 = omega arith in
    omega (arith, mul-le-mul_right (10 ^ length cs) few, bound cs (rest_passes is_ascii_digit c cs h), pow-succ' 10 (length cs))

less_is : (m n : ℕ) → m < n → nat_cmp m n ≡ Less
less_is m n h = sym (nat_cmp_is m n Less h)

greater_is : (m n : ℕ) → n < m → nat_cmp m n ≡ Greater
greater_is m n h = sym (nat_cmp_is m n Greater h)

equal_is : (m n : ℕ) → m ≡ n → nat_cmp m n ≡ Equal
equal_is m n h = sym (nat_cmp_is m n Equal h)

-- what is added on both sides tells nothing
shifted : (k l a b : ℕ) → k ≡ l → nat_cmp (k + a) (l + b) ≡ nat_cmp a b
shifted k l a b e = sym (nat_cmp_is (k + a) (l + b) (nat_cmp a b) (go (nat_cmp a b) (ranks a b)))
  where
    go : (o : Ordering) → MatchOrdering o (a < b) (a ≡ b) (b < a) → MatchOrdering o (k + a < l + b) (k + a ≡ l + b) (l + b < k + a)
    go Less h = omega arith
    go Equal h = omega arith
    go Greater h = omega arith

-- the first digit decides where it differs
leads : (x y a b p : ℕ) → digit_value x + 48 ≡ x → digit_value y + 48 ≡ y → a < p → b < p
    → nat_cmp (digit_value x * p + a) (digit_value y * p + b) ≡ ordering_then (nat_cmp x y) (nat_cmp a b)
leads x y a b p dx dy la lb = go (nat_cmp x y) refl (ranks x y)
  where
    go : (o : Ordering) → nat_cmp x y ≡ o → MatchOrdering o (x < y) (x ≡ y) (y < x)
        → nat_cmp (digit_value x * p + a) (digit_value y * p + b) ≡ ordering_then o (nat_cmp a b)
    go Less e h =
        let one_more : digit_value x + 1 ≤ digit_value y = omega arith in
        less_is (digit_value x * p + a) (digit_value y * p + b) (omega (arith, mul-le-mul_right p one_more))
    go Equal e h =
        let same : digit_value x ≡ digit_value y = omega arith in
        shifted (digit_value x * p) (digit_value y * p) a b (ap (λ (n : ℕ). n * p) same)
    go Greater e h =
        let one_more : digit_value y + 1 ≤ digit_value x = omega arith in
        greater_is (digit_value x * p + a) (digit_value y * p + b) (omega (arith, mul-le-mul_right p one_more))

same_length : (xs ys : List ℕ) → list_all is_ascii_digit xs ≡ true → list_all is_ascii_digit ys ≡ true → length xs ≡ length ys
    → nat_cmp (placed xs) (placed ys) ≡ slice_cmp nat_cmp xs ys
same_length [] [] hx hy e = refl
same_length [] (y ∷ ys) hx hy e = absurd (omega arith)
same_length (x ∷ xs) [] hx hy e = absurd (omega arith)
same_length (x ∷ xs) (y ∷ ys) hx hy e =
    let ex : length xs ≡ length ys = omega arith in
    let rx = rest_passes is_ascii_digit x xs hx in
    let ry = rest_passes is_ascii_digit y ys hy in
    let bx = bound xs rx in
    let by : placed ys < 10 ^ length xs = rw ex (bound ys ry) in
    let powers : 10 ^ length ys ≡ 10 ^ length xs = ap (λ (n : ℕ). 10 ^ n) (sym ex) in
    let led = leads x y (placed xs) (placed ys) (10 ^ length xs) (digit_is x (first_passes is_ascii_digit x xs hx)) (digit_is y (first_passes is_ascii_digit y ys hy)) bx by in
    rw powers (led ∙ ap (ordering_then (nat_cmp x y)) (same_length xs ys rx ry ex))

longer : (xs ys : List ℕ) → list_all is_ascii_digit xs ≡ true → list_all is_ascii_digit ys ≡ true → leads_with_zero xs ≡ false
    → length ys < length xs → placed ys < placed xs
longer [] ys hx hy z lt = absurd (omega arith)
longer (x ∷ xs) ys hx hy z lt =
    let d = digit_is x (first_passes is_ascii_digit x xs hx) in
    let r = digit_range x (first_passes is_ascii_digit x xs hx) in
    let some : 1 ≤ digit_value x = grind arith in
    let fits : length ys ≤ length xs = omega arith in
    let ten : zero < 10 = omega arith in
    omega (arith, bound ys hy, pow-le-pow_right ten fits, mul-le-mul_right (10 ^ length xs) some)

-- digits without leading zeros: by length, then by the digits
pub digits_compare : (xs ys : List ℕ) → list_all is_ascii_digit xs ≡ true → list_all is_ascii_digit ys ≡ true
    → leads_with_zero xs ≡ false → leads_with_zero ys ≡ false
    → nat_cmp (digits_value 10 xs) (digits_value 10 ys) ≡ ordering_then (nat_cmp (length xs) (length ys)) (slice_cmp nat_cmp xs ys)
digits_compare xs ys hx hy zx zy = rw (value_is xs, value_is ys) (go (nat_cmp (length xs) (length ys)) (ranks (length xs) (length ys)))
  where
    go : (o : Ordering) → MatchOrdering o (length xs < length ys) (length xs ≡ length ys) (length ys < length xs)
        → nat_cmp (placed xs) (placed ys) ≡ ordering_then o (slice_cmp nat_cmp xs ys)
    go Less h = less_is _ _ (longer ys xs hy hx zy h)
    go Equal h = same_length xs ys hx hy h
    go Greater h = greater_is _ _ (longer xs ys hx hy zx h)
