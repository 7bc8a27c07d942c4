-- The head of a hunk is read as its numbers.
use Rattle.std.proofs.Common.{◌≡◌, ℕ, ◌+◌, ◌^◌, ◌<◌, Bool, true, false, ◌&&◌, cond, nat_eq, nat_lt, List, [], ◌∷◌, ◌++◌, length, drop, codes, Option, Some, None, refl, ap, ◌∙◌, append_assoc, arith}
use Rattle.std.specs.Prelude.{take_while}
use Rattle.std.specs.Char.{is_ascii_digit, digit_value}
use Rattle.std.specs.Fmt.{decimal}
use Rattle.std.specs.List.{starts_with}
use Rattle.std.specs.Option.{option_and_then, option_map}
use Rattle.std.specs.Str.Parse.{AllDigits, IsNumeral, digits_value}
use Rattle.std.proofs.lemmas.Bool.Decides.{nat_tests}
use Rattle.std.proofs.lemmas.Fmt.{decimal_is_IsNumeral}
use Rattle.std.proofs.lemmas.List.{drop_at}
use Rattle.std.proofs.lemmas.List.Sums.{take_while-cons}
use Rattle.foreign_text.proofs.Bytes.{Lacks, lacks-append}
use Rattle.line_diff.specs.Diff.{range_text}
use Rattle.line_diff.specs.Applied.{numbers_behind, head_of, read_head, start_behind}
use Rattle.line_diff.proofs.Told.{IsEndedLine, IsEndedLine-append}

-- ---- a number

-- no digit comes first
abbrev pub EndsDigits : List ℕ → Type 0
EndsDigits [] = Unit {0}
EndsDigits (b ∷ bs) = is_ascii_digit b ≡ false

digit_is : (c : ℕ) → digit_value c < 10 → is_ascii_digit c ≡ true
digit_is c h = grind (arith, nat_tests)

digit_breaks_no_line : (c : ℕ) → digit_value c < 10 → nat_eq c 10 ≡ false
digit_breaks_no_line c h = grind (arith, nat_tests)

take_digits : (ds rest : List ℕ) → AllDigits 10 ds → EndsDigits rest → take_while is_ascii_digit (ds ++ rest) ≡ ds
take_digits [] [] d e = refl
take_digits [] (b ∷ bs) d e = take_while-cons is_ascii_digit b bs ∙ ap (λ (t : Bool). cond t (b ∷ take_while is_ascii_digit bs) []) e
take_digits (c ∷ cs) rest d e =
    take_while-cons is_ascii_digit c (cs ++ rest)
    ∙ ap (λ (t : Bool). cond t (c ∷ take_while is_ascii_digit (cs ++ rest)) []) (digit_is c d.0)
    ∙ ap (λ (ds : List ℕ). c ∷ ds) (take_digits cs rest d.1 e)

digits_break_no_line : (ds : List ℕ) → AllDigits 10 ds → Lacks 10 ds
digits_break_no_line [] d = tt
digits_break_no_line (c ∷ cs) d = (digit_breaks_no_line c d.0, digits_break_no_line cs d.1)

pub decimal-in_line : (n : ℕ) → n < 2 ^ 64 → Lacks 10 (decimal n)
decimal-in_line n h = digits_break_no_line (decimal n) (decimal_is_IsNumeral n h).0.1

-- ---- numbers between words

pub starts_with-append : (word xs : List ℕ) → starts_with nat_eq (word ++ xs) word ≡ true
starts_with-append [] xs = refl
starts_with-append (w ∷ word) xs =
    let same : nat_eq w w ≡ true = grind (arith, nat_tests) in
    ap (λ (t : Bool). t && starts_with nat_eq (word ++ xs) word) same ∙ starts_with-append word xs

module _ (words : List (List ℕ)) where
  by_digits : Bool → List ℕ → List ℕ → Option (List ℕ)
  by_digits is_begun digits rest =
      cond (is_begun && nat_lt 0 (length digits))
      (option_map (λ (numbers : List ℕ). digits_value 10 digits ∷ numbers) (numbers_behind words (drop (length digits) rest))) None

  by_rest : Bool → List ℕ → Option (List ℕ)
  by_rest is_begun rest = by_digits is_begun (take_while is_ascii_digit rest) rest

  by_numeral : (ds rest : List ℕ) (n : ℕ) → IsNumeral 10 ds × (digits_value 10 ds ≡ n) → EndsDigits rest → by_rest true (ds ++ rest) ≡ option_map (λ (numbers : List ℕ). n ∷ numbers) (numbers_behind words rest)
  unfolding by_rest by_digits
  by_numeral ds rest n d e =
      let some : nat_lt 0 (length ds) ≡ true = grind (arith, nat_tests, d.0.0) in
      ap (λ (digits : List ℕ). by_digits true digits (ds ++ rest)) (take_digits ds rest d.0.1 e)
      ∙ ap (λ (t : Bool). cond t (option_map (λ (numbers : List ℕ). digits_value 10 ds ∷ numbers) (numbers_behind words (drop (length ds) (ds ++ rest)))) None) some
      ∙ ap (λ (xs : List ℕ). option_map (λ (numbers : List ℕ). digits_value 10 ds ∷ numbers) (numbers_behind words xs)) (drop_at ds rest (length ds) refl)
      ∙ ap (λ (m : ℕ). option_map (λ (numbers : List ℕ). m ∷ numbers) (numbers_behind words rest)) d.1

  numbers_behind-number : (word : List ℕ) (n : ℕ) (rest : List ℕ) → n < 2 ^ 64 → EndsDigits rest → numbers_behind (word ∷ words) (word ++ (decimal n ++ rest)) ≡ option_map (λ (numbers : List ℕ). n ∷ numbers) (numbers_behind words rest)
  unfolding by_rest by_digits
  numbers_behind-number word n rest h e =
      let text = decimal n ++ rest in
      ap (λ (t : Bool). by_rest t (drop (length word) (word ++ text))) (starts_with-append word text)
      ∙ ap (by_rest true) (drop_at word text (length word) refl)
      ∙ by_numeral (decimal n) rest n (decimal_is_IsNumeral n h) e

-- ---- the head

abbrev start : ℕ → ℕ → ℕ
start i count = start_behind i count

abbrev pub head_text : ℕ → ℕ → ℕ → List ℕ
head_text i old new = codes "@@ -" ++ (range_text i old ++ (codes " +" ++ (range_text i new ++ codes " @@\n")))

range_text-append : (i count : ℕ) (rest : List ℕ) → range_text i count ++ rest ≡ decimal (start i count) ++ (codes "," ++ (decimal count ++ rest))
unfolding range_text
range_text-append i count rest = append_assoc (decimal (start i count)) (codes "," ++ decimal count) rest

head_text-is : (i old new : ℕ) → head_text i old new ≡ codes "@@ -" ++ (decimal (start i old) ++ (codes "," ++ (decimal old ++ (codes " +" ++ (decimal (start i new) ++ (codes "," ++ (decimal new ++ codes " @@\n")))))))
head_text-is i old new =
    ap (λ (xs : List ℕ). codes "@@ -" ++ (range_text i old ++ (codes " +" ++ xs))) (range_text-append i new (codes " @@\n"))
    ∙ ap (λ (xs : List ℕ). codes "@@ -" ++ xs) (range_text-append i old (codes " +" ++ (decimal (start i new) ++ (codes "," ++ (decimal new ++ codes " @@\n")))))

start_small : (i count : ℕ) → i + 1 < 2 ^ 64 → start i count < 2 ^ 64
start_small i count h = elim (nat_eq count 0) as (λ t. cond t i (i + 1) < 2 ^ 64) [ true ↦ omega arith | false ↦ h ]

pub read_head-text : (i old new : ℕ) → i + 1 < 2 ^ 64 → old < 2 ^ 64 → new < 2 ^ 64
    → read_head (head_text i old new) ≡ Some (record { old_start = start_behind i old; old_count = old; new_start = start_behind i new; new_count = new })
read_head-text i old new h k l =
    let words_3 = codes "," ∷ [] in
    let words_2 = codes " +" ∷ words_3 in
    let words_1 = codes "," ∷ words_2 in
    let text_3 = codes "," ++ (decimal new ++ codes " @@\n") in
    let text_2 = codes " +" ++ (decimal (start i new) ++ text_3) in
    let text_1 = codes "," ++ (decimal old ++ text_2) in
    let behind = λ (n : ℕ) (ns : Option (List ℕ)). option_map (λ (numbers : List ℕ). n ∷ numbers) ns in
    ap read_head (head_text-is i old new)
    ∙ ap (option_and_then head_of)
    (numbers_behind-number words_1 (codes "@@ -") (start i old) text_1 (start_small i old h) refl
    ∙ ap (behind (start i old)) (numbers_behind-number words_2 (codes ",") old text_2 k refl
    ∙ ap (behind old) (numbers_behind-number words_3 (codes " +") (start i new) text_3 (start_small i new h) refl
    ∙ ap (behind (start i new)) (numbers_behind-number [] (codes ",") new (codes " @@\n") l refl))))

range_in_line : (i count : ℕ) → i + 1 < 2 ^ 64 → count < 2 ^ 64 → Lacks 10 (range_text i count)
unfolding range_text
range_in_line i count h k =
    lacks-append 10 (decimal (start i count)) (codes "," ++ decimal count) (decimal-in_line (start i count) (start_small i count h)) (refl, decimal-in_line count k)

pub head_text-line : (i old new : ℕ) → i + 1 < 2 ^ 64 → old < 2 ^ 64 → new < 2 ^ 64 → IsEndedLine (head_text i old new)
head_text-line i old new h k l =
    let last : IsEndedLine (codes " @@\n") = record { is_line = (refl, (refl, (refl, tt))); is_end = refl } in
    IsEndedLine-append (codes "@@ -") _ (refl, (refl, (refl, (refl, tt))))
    (IsEndedLine-append (range_text i old) _ (range_in_line i old h k)
    (IsEndedLine-append (codes " +") _ (refl, (refl, tt))
    (IsEndedLine-append (range_text i new) (codes " @@\n") (range_in_line i new h l) last)))
