-- The lines with the file's names stand before the hunks.
use Rattle.std.proofs.Common.{◌≡◌, ℕ, ◌+◌, ◌/◌, ◌%◌, Bool, true, false, cond, nat_eq, List, [], ◌∷◌, ◌++◌, codes, flat_map, Some, refl, ap, ◌∙◌, append_assoc, arith}
use Rattle.std.specs.List.{list_all, list_any}
use Rattle.std.proofs.lemmas.Bool.Decides.{nat_tests}
use Rattle.foreign_text.specs.Names.{is_plain, is_blank, letter_for, octal, quoted_byte, quoted, shown_name, tab_for, header_name}
use Rattle.foreign_text.proofs.Bytes.{Lacks, lacks-append, choose, two, other}
use Rattle.line_diff.specs.Diff.{whole_lines, old_name, new_name, names_text}
use Rattle.line_diff.specs.Applied.{told_lines, hunk_lines}
use Rattle.line_diff.proofs.Told.{IsEndedLine, IsEndedLine-append, whole_lines-ended}

-- ---- a name breaks no line

plain_in_line : (b : ℕ) → is_plain b ≡ true → nat_eq b 10 ≡ false
plain_in_line b = grind (arith, nat_tests)

plains_in_line : (name : List ℕ) → list_all is_plain name ≡ true → Lacks 10 name
plains_in_line [] h = tt
plains_in_line (b ∷ bs) h = let p = two (is_plain b) (list_all is_plain bs) h in (plain_in_line b p.0, plains_in_line bs p.1)

either : (t : Bool) (m n : ℕ) → nat_eq m 10 ≡ false → nat_eq n 10 ≡ false → nat_eq (cond t m n) 10 ≡ false
either true m n h k = h
either false m n h k = k

letter_in_line : (b : ℕ) → nat_eq (letter_for b) 10 ≡ false
letter_in_line b =
    either (nat_eq b 7) 97 _ refl (either (nat_eq b 8) 98 _ refl (either (nat_eq b 9) 116 _ refl (either (nat_eq b 10) 110 _ refl
    (either (nat_eq b 11) 118 _ refl (either (nat_eq b 12) 102 _ refl (either (nat_eq b 13) 114 _ refl (either (nat_eq b 34) 34 _ refl
    (either (nat_eq b 92) 92 0 refl refl))))))))

octal_in_line : (b : ℕ) → Lacks 10 (octal b)
octal_in_line b =
    (other (48 + b / 64) 10 (λ e. omega arith), (other (48 + b / 8 % 8) 10 (λ e. omega arith), (other (48 + b % 8) 10 (λ e. omega arith), tt)))

byte_in_line : (b : ℕ) → Lacks 10 (quoted_byte b)
byte_in_line b =
    choose (Lacks 10) (is_plain b) (b ∷ []) _ (λ h. (plain_in_line b h, tt))
    (λ _. (refl, choose (Lacks 10) (nat_eq (letter_for b) 0) (octal b) (letter_for b ∷ []) (λ _. octal_in_line b) (λ _. (letter_in_line b, tt))))

bytes_in_line : (name : List ℕ) → Lacks 10 (flat_map quoted_byte name)
bytes_in_line [] = tt
bytes_in_line (b ∷ bs) = lacks-append 10 (quoted_byte b) (flat_map quoted_byte bs) (byte_in_line b) (bytes_in_line bs)

shown_in_line : (name : List ℕ) → Lacks 10 (shown_name name)
shown_in_line name =
    choose (Lacks 10) (list_all is_plain name) name (quoted name) (plains_in_line name)
    (λ _. (refl, lacks-append 10 (flat_map quoted_byte name) (34 ∷ []) (bytes_in_line name) (refl, tt)))

tab_in_line : (name : List ℕ) → Lacks 10 (tab_for name)
tab_in_line name = choose (Lacks 10) (list_any is_blank name) (9 ∷ []) [] (λ _. (refl, tt)) (λ _. tt)

-- ---- both lines

header_line : (name : List ℕ) → IsEndedLine (header_name name)
header_line name =
    IsEndedLine-append (shown_name name) _ (shown_in_line name)
    (IsEndedLine-append (tab_for name) (10 ∷ []) (tab_in_line name) (record { is_line = tt; is_end = refl }))

old_line : (name : List ℕ) → IsEndedLine (codes "--- " ++ header_name name)
old_line name = IsEndedLine-append (codes "--- ") (header_name name) (refl, (refl, (refl, (refl, tt)))) (header_line name)

new_line : (name : List ℕ) → IsEndedLine (codes "+++ " ++ header_name name)
new_line name = IsEndedLine-append (codes "+++ ") (header_name name) (refl, (refl, (refl, (refl, tt)))) (header_line name)

names_text-append : (name rest : List ℕ) → names_text name ++ rest ≡ (codes "--- " ++ header_name (old_name name)) ++ ((codes "+++ " ++ header_name (new_name name)) ++ rest)
unfolding names_text
names_text-append name rest = append_assoc (codes "--- " ++ header_name (old_name name)) (codes "+++ " ++ header_name (new_name name)) rest

pub hunk_lines-names : (name rest : List ℕ) → hunk_lines (whole_lines (names_text name ++ rest)) ≡ Some (told_lines (whole_lines rest))
hunk_lines-names name rest =
    let old = codes "--- " ++ header_name (old_name name) in
    let new = codes "+++ " ++ header_name (new_name name) in
    ap (λ (text : List ℕ). hunk_lines (whole_lines text)) (names_text-append name rest)
    ∙ ap hunk_lines (whole_lines-ended old (new ++ rest) (old_line (old_name name)))
    ∙ ap (λ (lines : List (List ℕ)). hunk_lines (old ∷ lines)) (whole_lines-ended new rest (new_line (new_name name)))
