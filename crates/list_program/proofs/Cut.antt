-- The lines of a text, by the place of its first newline.
use Rattle.std.proofs.Common.{◌≡◌, ◌∙◌, ◌<◌, ◌==◌, ◌+◌, ℕ, Bool, false, cond, List, [], ◌∷◌, None, Some, length, take, drop, get_or, ap, refl, arith, All}
use Rattle.std.specs.List.{slice_split, before_first, after_first}
use Rattle.std.specs.Str.Lines.{lines, lines_of_parts, strip_carriage_return}
use Rattle.std.proofs.lemmas.List.Splits.{slice_split_first, slice_split_none, length-slice_split}
use Rattle.std.proofs.lemmas.Bool.Decides.{nat_tests}
use Rattle.std.proofs.lemmas.List.Elements.{All-from_get_or}
use Rattle.memchr.specs.Find.{IsFirstByte, is_byte}
use Rattle.list_program.proofs.Parted.{found_place, not_true}

-- the first of two parts or more is a line
first_part : (front : List ℕ) (parts : List (List ℕ)) → 0 < length parts → lines_of_parts (front ∷ parts) ≡ strip_carriage_return front ∷ lines_of_parts parts
first_part front [] h = absurd (omega arith)
first_part front (y ∷ more) h = refl

pub line_there : (bs : List ℕ) (k : ℕ) → IsFirstByte (is_byte 10) bs (Some k) → lines bs ≡ strip_carriage_return (take k bs) ∷ lines (drop (k + 1) bs)
line_there bs k h =
    let p : ℕ → Bool = λ b. b == 10 in
    let f = found_place 10 bs k h in
    let split : slice_split p bs ≡ before_first p bs ∷ slice_split p (after_first p bs) = slice_split_first p bs 0 (omega (arith, f.0, f.1)) in
    ap lines_of_parts split
    ∙ first_part (before_first p bs) (slice_split p (after_first p bs)) (omega (arith, length-slice_split p (after_first p bs)))
    ∙ ap (λ (n : ℕ). strip_carriage_return (take n bs) ∷ lines (drop (n + 1) bs)) f.0

lone : (bs : List ℕ) → 0 < length bs → lines_of_parts (bs ∷ []) ≡ bs ∷ []
lone bs h =
    let some : (length bs == 0) ≡ false = grind (arith, nat_tests) in
    ap (λ t. cond t [] (bs ∷ [])) some

pub line_nowhere : (bs : List ℕ) → IsFirstByte (is_byte 10) bs None → 0 < length bs → lines bs ≡ bs ∷ []
line_nowhere bs h some =
    let none : All (λ (b : ℕ). (b == 10) ≡ false) bs = All-from_get_or (λ (b : ℕ). (b == 10) ≡ false) bs 0 (λ i lt. not_true (get_or bs i 0 == 10) (h i (omega arith) lt)) in
    ap lines_of_parts (slice_split_none (λ b. b == 10) bs none) ∙ lone bs some

pub line_none : (bs : List ℕ) → length bs ≡ 0 → lines bs ≡ []
line_none [] h = refl
line_none (b ∷ bs) h = absurd (omega arith)
