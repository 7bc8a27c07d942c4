-- What is read of a text lies within it.
use Rattle.std.proofs.Common.{◌≡◌, ℕ, zero, suc, ◌+◌, ◌<◌, ◌≤◌, ◌&&◌, ◌||◌, ◌==◌, not, nat_eq, cond, Bool, true, false, Option, Some, None, IfSome, List, [], ◌∷◌, length, drop, refl, arith}
use Rattle.std.specs.List.{starts_with, prefix_len}
use Rattle.std.specs.Char.{is_ascii_whitespace}
use Rattle.std.proofs.lemmas.List.{length-drop, length-take-le}
use Rattle.text_places.specs.declared.field_lines.Grammar.{Grammar}
use Rattle.text_places.specs.declared.texts.Extent.{Extent}
use Rattle.text_places.specs.declared.texts.Piece.{Piece}
use Rattle.text_places.specs.declared.texts.Piece.TheVariants.{Gap, End}
use Rattle.text_places.specs.Names.{is_one_of, begins_comment, behind_blanks, behind_separator, behind_name, field_text, behind_dash, item_text}
use Rattle.text_places.specs.Texts.{closing, has_quotes, is_quote, is_plain, ends_plain, plain_len, quoted_len, quoted, plain, scalar, passes_over, value_or_end, next_piece, IsWithin, IsPieceWithin}

some_if : {T : Type 0} (b : Bool) (x : T) (P : T → Type 0) → (b ≡ true → P x) → IfSome (cond b (Some x) None) P
some_if true x P h = h refl
some_if false x P h = tt

some_either : {T : Type 0} (b : Bool) (x y : Option T) (P : T → Type 0) → IfSome x P → IfSome y P → IfSome (cond b x y) P
some_either true x y P h k = h
some_either false x y P h k = k

quote_inside : (quote : ℕ) (bs : List ℕ) (n : ℕ) → starts_with nat_eq (drop n bs) (quote ∷ []) ≡ true → n < length bs
quote_inside quote [] zero t = absurd (let no : false ≡ true = t in cc)
quote_inside quote [] (suc n) t = absurd (let no : false ≡ true = t in cc)
quote_inside quote (b ∷ bs) zero t = omega arith
quote_inside quote (b ∷ bs) (suc n) t = let h = quote_inside quote bs n t in omega arith

quoted-within : (quote : ℕ) (bs : List ℕ) → IfSome (quoted quote bs) (IsWithin (suc (length bs)))
quoted-within quote bs =
    some_if _ _ (IsWithin (suc (length bs))) (λ t.
    let h = quote_inside quote bs (quoted_len quote bs) t in
    record { some = omega arith; value = omega arith; read = omega arith })

plain_len-more : (g : Grammar) (is_listed : Bool) (b : ℕ) (bs : List ℕ) (t : Bool) → plain_len g is_listed bs ≤ length bs → cond t 0 (1 + plain_len g is_listed bs) ≤ suc (length bs)
plain_len-more g is_listed b bs true h = omega arith
plain_len-more g is_listed b bs false h = omega arith

plain_len-within : (g : Grammar) (is_listed : Bool) (bs : List ℕ) → plain_len g is_listed bs ≤ length bs
plain_len-within g is_listed [] = omega arith
plain_len-within g is_listed (b ∷ bs) = plain_len-more g is_listed b bs (ends_plain g.notation g.comment.now is_listed b bs) (plain_len-within g is_listed bs)

plain-within : (g : Grammar) (is_listed : Bool) (b : ℕ) (bs : List ℕ) → IsWithin (suc (length bs)) (plain g is_listed (b ∷ bs) bs)
plain-within g is_listed b bs =
    let h = plain_len-within g is_listed bs in
    let taken = length-take-le (1 + plain_len g is_listed bs) (b ∷ bs) (omega arith) in
    record { some = omega arith; value = omega (arith, taken); read = omega arith }

pub scalar-within : (g : Grammar) (is_listed : Bool) (text : List ℕ) → IfSome (scalar g is_listed text) (IsWithin (length text))
scalar-within g is_listed [] = tt
scalar-within g is_listed (b ∷ bs) =
    some_either (has_quotes g.notation && is_quote b) _ _ (IsWithin (suc (length bs))) (quoted-within b bs)
    (some_if (is_plain g.notation b && not (begins_comment g.comment.now (b ∷ bs))) _ (IsWithin (suc (length bs))) (λ _. plain-within g is_listed b bs))

piece_either : (len : ℕ) (t : Bool) (p q : Piece) → IsPieceWithin len p → IsPieceWithin len q → IsPieceWithin len (cond t p q)
piece_either len true p q h k = h
piece_either len false p q h k = k

value_or_end-within : (len : ℕ) (is_gap : Bool) (o : Option Extent) → IfSome o (IsWithin len) → IsPieceWithin len (value_or_end is_gap o)
value_or_end-within len is_gap None h = piece_either len is_gap Gap (End false) tt tt
value_or_end-within len is_gap (Some s) h = h

pub next_piece-within : (g : Grammar) (b : ℕ) (text : List ℕ) → IsPieceWithin (length text) (next_piece g b text)
next_piece-within g b text =
    let len = length text in
    let is_gap = passes_over g.notation b in
    let value = value_or_end is_gap (scalar g true text) in
    let end = cond (b == closing g.notation) (End false) value in
    let open' = cond (begins_comment g.comment.now text) (End true) end in
    piece_either len (is_ascii_whitespace b || b == 44) Gap open' tt
    (piece_either len (begins_comment g.comment.now text) (End true) end tt
    (piece_either len (b == closing g.notation) (End false) value tt (value_or_end-within len is_gap (scalar g true text) (scalar-within g true text))))

-- it is no longer than this
abbrev pub IsUpTo : ℕ → List ℕ → Type 0
IsUpTo n text = length text ≤ n

behind_blanks-within : (n : ℕ) (text : List ℕ) → length text ≤ n → IsUpTo n (behind_blanks text)
behind_blanks-within n text l = omega (arith, length-drop (prefix_len is_ascii_whitespace text) text)

behind_separator-within : (n : ℕ) (set text : List ℕ) → length text ≤ n → IfSome (behind_separator set text) (IsUpTo n)
behind_separator-within n set [] l = tt
behind_separator-within n set (b ∷ bs) l = some_if (is_one_of set b) _ (IsUpTo n) (λ _. behind_blanks-within n bs (omega arith))

behind_name-within : (n : ℕ) (g : Grammar) (text : List ℕ) → length text ≤ n → IfSome (behind_name g text) (IsUpTo n)
behind_name-within n g text l =
    let name = length g.name.now in
    some_either _ _ None (IsUpTo n)
    (behind_separator-within n g.separators.now (behind_blanks (drop name text)) (behind_blanks-within n (drop name text) (omega (arith, length-drop name text)))) tt

pub field_text-within : (g : Grammar) (line : List ℕ) → IfSome (field_text g line) (IsUpTo (length line))
field_text-within g line =
    let front = prefix_len (is_one_of g.before.now) line in
    behind_name-within (length line) g (drop front line) (omega (arith, length-drop front line))

behind_dash-within : (n : ℕ) (text : List ℕ) → length text ≤ n → IfSome (behind_dash text) (IsUpTo n)
behind_dash-within n [] l = tt
behind_dash-within n (dash ∷ []) l = tt
behind_dash-within n (dash ∷ blank ∷ bs) l =
    some_if (dash == 45 && is_ascii_whitespace blank) _ (IsUpTo n) (λ _. behind_blanks-within n bs (omega arith))

pub item_text-within : (line : List ℕ) → IfSome (item_text line) (IsUpTo (length line))
item_text-within line = behind_dash-within (length line) (behind_blanks line) (behind_blanks-within (length line) line (omega arith))
