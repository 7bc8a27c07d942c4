-- What the scan finds, piece by piece.
use Rattle.std.proofs.Common.{◌≡◌, ℕ, zero, suc, ◌+◌, ◌-◌, ◌<◌, ◌≤◌, Bool, true, false, nat_eq, List, [], ◌∷◌, ◌++◌, length, get_or, drop, refl, sym, ap, ◌∙◌, append_assoc, arith, length-append, length-drop}
use Rattle.std.specs.Prelude.{if◌then◌else◌}
use Rattle.std.proofs.lemmas.List.{drop_more, drop-drop}
use Rattle.std.specs.List.{starts_with}
use Rattle.text_places.specs.declared.Span.{Span}
use Rattle.toml_places.specs.declared.literals.Line.{Line}
use Rattle.toml_places.specs.Literals.{is_escape, quoted_len, piece_len, line_behind, is_value, value_at, literals_from, literals, first_line}

-- a literal goes on where its quotes do not stand
pub quoted_len-more : (quotes : List ℕ) (b : ℕ) (bs : List ℕ) → starts_with nat_eq (b ∷ bs) quotes ≡ false
    → quoted_len quotes false (b ∷ bs) ≡ 1 + quoted_len quotes (is_escape quotes b) bs
quoted_len-more quotes b bs goes_on = rw goes_on

-- bytes that are read already are no part of a later piece
literals_from-skip : (line : Line) (at skip : ℕ) (bs : List ℕ) → literals_from line at skip bs ≡ literals_from line (at + skip) 0 (drop skip bs)
literals_from-skip line at zero bs =
    let here : at ≡ at + 0 = omega arith in
    ap (λ (n : ℕ). literals_from line n 0 bs) here
literals_from-skip line at (suc skip) [] = refl
literals_from-skip line at (suc skip) (b ∷ bs) =
    let here : at + 1 + skip ≡ at + suc skip = omega arith in
    literals_from-skip line (at + 1) skip bs ∙ ap (λ (n : ℕ). literals_from line n 0 (drop skip bs)) here

literals_from-behind : (line : Line) (at len b : ℕ) (bs : List ℕ) → 0 < len → literals_from line (at + 1) (len - 1) bs ≡ literals_from line (at + len) 0 (drop len (b ∷ bs))
literals_from-behind line at zero b bs some = absurd (omega arith)
literals_from-behind line at (suc len) b bs some =
    let one : suc len - 1 ≡ len = omega arith in
    let here : at + 1 + len ≡ at + suc len = omega arith in
    ap (λ (n : ℕ). literals_from line (at + 1) n bs) one ∙ literals_from-skip line (at + 1) len bs ∙ ap (λ (n : ℕ). literals_from line n 0 (drop len bs)) here

-- the piece at the front, and those behind it
pub literals_from-step : (line : Line) (at : ℕ) (bs : List ℕ) → 0 < length bs → 0 < piece_len bs
    → literals_from line at 0 bs ≡ value_at line at bs ++ literals_from (line_behind line (get_or bs 0 0)) (at + piece_len bs) 0 (drop (piece_len bs) bs)
literals_from-step line at [] some read = absurd (omega arith)
literals_from-step line at (b ∷ bs) some read =
    ap (λ (later : List Span). value_at line at (b ∷ bs) ++ later) (literals_from-behind (line_behind line b) at (piece_len (b ∷ bs)) b bs read)

-- the same in the bytes of a whole text
literals_from-at : (line next : Line) (at len : ℕ) (bytes : List ℕ) (is : Bool) → at < length bytes → len ≡ piece_len (drop at bytes) → 0 < len
    → is ≡ is_value line (drop at bytes) → next ≡ line_behind line (get_or bytes at 0)
    → literals_from line at 0 (drop at bytes)
    ≡ (if is then (record { start = at; end = at + len } ∷ []) else []) ++ literals_from next (at + len) 0 (drop (at + len) bytes)
literals_from-at line next at len bytes is lt len_is some is_value_is next_is =
    let first : get_or bytes at 0 ≡ get_or (drop at bytes) 0 0 = sym (ap (λ (xs : List ℕ). get_or xs 0 0) (drop_more bytes at 0 lt)) in
    let behind : drop (at + len) bytes ≡ drop len (drop at bytes) = sym (drop-drop len at bytes) in
    rw (next_is, is_value_is, first, behind, len_is) (literals_from-step line at (drop at bytes) (omega (arith, length-drop at bytes)) (omega arith))

-- a literal that is found
pub literals_from-value : (line next : Line) (at len : ℕ) (bytes : List ℕ) (found : List Span) → at < length bytes → len ≡ piece_len (drop at bytes) → 0 < len
    → true ≡ is_value line (drop at bytes) → next ≡ line_behind line (get_or bytes at 0)
    → found ++ literals_from line at 0 (drop at bytes) ≡ literals bytes
    → (found ++ (record { start = at; end = at + len } ∷ [])) ++ literals_from next (at + len) 0 (drop (at + len) bytes) ≡ literals bytes
literals_from-value line next at len bytes found lt len_is some is next_is so_far =
    append_assoc found (record { start = at; end = at + len } ∷ []) (literals_from next (at + len) 0 (drop (at + len) bytes))
    ∙ ap (λ (later : List Span). found ++ later) (sym (literals_from-at line next at len bytes true lt len_is some is next_is)) ∙ so_far

-- and a piece that is none
pub literals_from-other : (line next : Line) (at len : ℕ) (bytes : List ℕ) (found : List Span) → at < length bytes → len ≡ piece_len (drop at bytes) → 0 < len
    → false ≡ is_value line (drop at bytes) → next ≡ line_behind line (get_or bytes at 0)
    → found ++ literals_from line at 0 (drop at bytes) ≡ literals bytes
    → found ++ literals_from next (at + len) 0 (drop (at + len) bytes) ≡ literals bytes
literals_from-other line next at len bytes found lt len_is some is next_is so_far =
    ap (λ (later : List Span). found ++ later) (sym (literals_from-at line next at len bytes false lt len_is some is next_is)) ∙ so_far

length-value_at : (line : Line) (at : ℕ) (bs : List ℕ) → length (value_at line at bs) ≤ 1
length-value_at line at bs = elim (is_value line bs) as (λ (is : Bool). length {A = Span} (if is then (record { start = at; end = at + piece_len bs } ∷ []) else []) ≤ 1) [ true ↦ omega arith | false ↦ omega arith ]

length-literals_from : (line : Line) (at skip : ℕ) (bs : List ℕ) → length (literals_from line at skip bs) ≤ length bs
length-literals_from line at skip [] = omega arith
length-literals_from line at (suc skip) (b ∷ bs) = let later = length-literals_from line (at + 1) skip bs in omega arith
length-literals_from line at zero (b ∷ bs) =
    let here = length-value_at line at (b ∷ bs) in
    let later = length-literals_from (line_behind line b) (at + 1) (piece_len (b ∷ bs) - 1) bs in
    omega (arith, length-append (value_at line at (b ∷ bs)) (literals_from (line_behind line b) (at + 1) (piece_len (b ∷ bs) - 1) bs))

-- a text has no more literals than bytes
pub length-literals : (text : List ℕ) → length (literals text) ≤ length text
length-literals text = length-literals_from first_line 0 0 text
