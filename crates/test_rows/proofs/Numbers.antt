-- The number of a text is the one that the standard library reads.
use Rattle.std.proofs.Common.{◌≡◌, ℕ, ◌<◌, ◌^◌, List, length, true, arith}
use Rattle.std.proofs.lemmas.Str.Parse.{IsNumeralModel, numerals_by_value, tells_all_ascii_digits}
use Rattle.std.specs.Str.{all_ascii_digits}
use Rattle.std.specs.Str.Parse.{IsNumeral, digits_value, without_leading_plus}
use Rattle.test_rows.specs.Short.{number, number_of}

own : IsNumeralModel (λ ds. all_ascii_digits ds ≡ true) (digits_value 10)
own = numerals_by_value _ tells_all_ascii_digits

number_some : (ds : List ℕ) → IsNumeral 10 ds → digits_value 10 ds < 2 ^ 32 → number_of ds ≡ digits_value 10 ds
number_some ds is_numeral lt =
    let digits : all_ascii_digits ds ≡ true = own.from ds is_numeral.1 in
    let some : 0 < length ds = is_numeral.0 in
    grind (arith, digits, some, lt)

number_none : (ds : List ℕ) → (IsNumeral 10 ds × (digits_value 10 ds < 2 ^ 32) → ⊥) → number_of ds ≡ 0
number_none ds never =
    let unread : 0 < length ds → all_ascii_digits ds ≡ true → digits_value 10 ds < 2 ^ 32 → ⊥ =
    λ some digits lt. never ((some, own.to ds digits), lt) in
    grind (arith, unread)

pub number_read : (text : List ℕ) (n : ℕ) → (IsNumeral 10 (without_leading_plus text) × (digits_value 10 (without_leading_plus text) < 2 ^ 32)) × (n ≡ digits_value 10 (without_leading_plus text)) → n ≡ number text
number_read text n h =
    grind (arith, h.1, number_some (without_leading_plus text) h.0.0 h.0.1)

pub number_unread : (text : List ℕ) → (IsNumeral 10 (without_leading_plus text) × (digits_value 10 (without_leading_plus text) < 2 ^ 32) → ⊥) → 0 ≡ number text
number_unread text never =
    grind (arith, number_none (without_leading_plus text) never)
