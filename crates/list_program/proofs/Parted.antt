-- `split_once` at a byte of ASCII parts a text there.
use Rattle.std.proofs.Common.{◌≡◌, ◌∙◌, ◌<◌, ◌==◌, ◌+◌, ℕ, Bool, true, false, List, Option, None, Some, Bor, length, take, drop, get_or, option_map, ap, sym, refl, arith}
use Rattle.memchr.specs.Find.{IsFirstByte, is_byte}
use Rattle.std.proofs.lemmas.Bool.{eqb-true}
use Rattle.std.proofs.lemmas.List.Sums.{position_or_len_is}
use Rattle.std.specs.List.{after_first, before_first, position_or_len}
use Rattle.std.proofs.lemmas.Bool.{le-ltb, lt-ltb}
use Rattle.std.proofs.lemmas.Str.Pattern.{IsSplitOnceResult, split_once_first}
use Rattle.list_program.specs.Cells.{parted}

none_between : (p : ℕ → Bool) (bs : List ℕ) → position_or_len p bs ≡ length bs → parted p bs ≡ None
none_between p bs e = rw (e, le-ltb (length bs) (length bs) (omega arith))

one_between : (p : ℕ → Bool) (bs : List ℕ) → position_or_len p bs < length bs → parted p bs ≡ Some (before_first p bs, after_first p bs)
one_between p bs h = rw (lt-ltb (position_or_len p bs) (length bs) h)

pub parted_by : (c : ℕ) (bs : List ℕ) (r : Option (Bor (List ℕ) × Bor (List ℕ))) → IsSplitOnceResult c bs r → c < 128 → option_map (λ p. (p.0.now, p.1.now)) r ≡ parted (λ b. b == c) bs
parted_by c bs None h low = sym (none_between (λ b. b == c) bs (split_once_first c bs None h low))
parted_by c bs (Some x) h low =
    let f = split_once_first c bs (Some x) h low in
    ap (λ (a : List ℕ). Some (a, x.1.now)) f.1 ∙ ap (λ (b : List ℕ). Some (before_first (λ b. b == c) bs, b)) f.2 ∙ sym (one_between (λ b. b == c) bs f.0)

pub not_true : (t : Bool) → ¬ (t ≡ true) → t ≡ false
not_true true n = absurd (n refl)
not_true false n = refl

-- what a search for the byte finds is where it parts the bytes
pub found_place : (c : ℕ) (bs : List ℕ) (k : ℕ) → IsFirstByte (is_byte c) bs (Some k) → (position_or_len (λ b. b == c) bs ≡ k) × (k < length bs) × (get_or bs k 0 ≡ c)
found_place c bs k h =
    (position_or_len_is (λ b. b == c) bs k 0 (omega (arith, h.0.high)) (λ j lt. not_true (get_or bs j 0 == c) (h.0.before j (omega arith) lt)) (λ lt. h.1), h.0.high, eqb-true _ _ h.1)

pub no_place : (c : ℕ) (bs : List ℕ) → IsFirstByte (is_byte c) bs None → position_or_len (λ b. b == c) bs ≡ length bs
no_place c bs h =
    position_or_len_is (λ b. b == c) bs (length bs) 0 (omega arith) (λ j lt. not_true (get_or bs j 0 == c) (h j (omega arith) lt)) (λ lt. absurd (omega arith))

pub parted_there : (c : ℕ) (bs : List ℕ) (k : ℕ) → IsFirstByte (is_byte c) bs (Some k) → parted (λ b. b == c) bs ≡ Some (take k bs, drop (k + 1) bs)
parted_there c bs k h =
    let f = found_place c bs k h in
    one_between (λ b. b == c) bs (omega (arith, f.0, f.1)) ∙ ap (λ (n : ℕ). Some (take n bs, drop (n + 1) bs)) f.0

pub parted_nowhere : (c : ℕ) (bs : List ℕ) → IsFirstByte (is_byte c) bs None → parted (λ b. b == c) bs ≡ None
parted_nowhere c bs h = none_between (λ b. b == c) bs (no_place c bs h)
