-- What a mark at the beginning tells.
use Rattle.std.proofs.Common.{◌≡◌, ◌<◌, ◌≤◌, ◌*◌, ◌/◌, ℕ, List, ◌∷◌, ◌++◌, [], true, get_or, arith}
use Rattle.std.proofs.lemmas.Bool.Decides.{nat_tests}
use Rattle.std.proofs.Math.Nat.{div-lt_iff_lt-mul}
use Rattle.std.proofs.Math.Utf8.{scalar_cases, scalars}
use Rattle.std.specs.Char.{encode_utf8, IsScalar}
use Rattle.std.specs.Str.{IsUtf8, encode_utf8_all}
use Rattle.manifests.specs.Sites.{is_utf16}

quotient : (c n m : ℕ) → 0 < m → c < n * m → c / m < n
quotient c n m some lt = (div-lt_iff_lt-mul some).1 lt

-- no character begins with a byte from 254 on
first_of : (c : ℕ) (rest : List ℕ) → IsScalar c → get_or (encode_utf8 c ++ rest) 0 0 < 254
unfolding encode_utf8
first_of c rest s =
    grind (arith, nat_tests, scalar_cases c s, quotient c 32 64, quotient c 16 4096, quotient c 5 262144)

-- and so no text
first_is_low : (cs : List ℕ) → scalars cs ≡ true → get_or (encode_utf8_all cs) 0 0 < 254
first_is_low [] s = omega arith
first_is_low (c ∷ cs) s = first_of c (encode_utf8_all cs) (grind (arith, s, nat_tests))

first_is_high : (bytes : List ℕ) → is_utf16 bytes ≡ true → 254 ≤ get_or bytes 0 0
first_is_high [] e = grind (arith, nat_tests, e)
first_is_high (b ∷ []) e = grind (arith, nat_tests, e)
first_is_high (b ∷ d ∷ bytes) e = grind (arith, nat_tests, e)

-- what a mark tells to be UTF-16 is no UTF-8
pub no_utf8 : (bytes : List ℕ) → is_utf16 bytes ≡ true → IsUtf8 bytes → ⊥
no_utf8 bytes e text = grind (arith, first_is_high bytes e, first_is_low text.0 text.1.0, text.1.1)
