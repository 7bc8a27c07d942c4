-- What one more byte or piece adds to what a scan finds.
use Rattle.std.proofs.Common.{◌≡◌, ℕ, zero, suc, ◌+◌, ◌-◌, ◌<◌, ◌≤◌, ◌==◌, ◌&&◌, cond, not, Bool, true, false, List, [], ◌∷◌, ◌++◌, length, drop, get_or, refl, sym, subst, ap, ◌∙◌, arith}
use Rattle.std.proofs.lemmas.List.{drop_more}
use Rattle.text_places.specs.declared.Span.{Span}
use Rattle.text_places.specs.Order.{AreInOrder}
use Rattle.json_places.specs.Literals.{begins_colon, quoted_len, piece_len, value_at, literals, literals_from}

ends_not : (b : ℕ) (bs : List ℕ) → (b == 34) ≡ false → quoted_len false (b ∷ bs) ≡ 1 + quoted_len (b == 92) bs
ends_not b bs e = rw e refl

-- a byte that ends no literal
pub quoted_len-more : (e : Bool) (bs : List ℕ) (i : ℕ) → i < length bs → (not e && get_or bs i 0 == 34) ≡ false
    → quoted_len e (drop i bs) ≡ 1 + quoted_len (not e && get_or bs i 0 == 92) (drop (i + 1) bs)
quoted_len-more true bs i lt h = ap (quoted_len true) (drop_more bs i 0 lt)
quoted_len-more false bs i lt h = ap (quoted_len false) (drop_more bs i 0 lt) ∙ ends_not (get_or bs i 0) (drop (i + 1) bs) h

-- what was read is passed over
pub literals_from-skip : (at skip : ℕ) (bs : List ℕ) → literals_from at skip bs ≡ literals_from (at + skip) 0 (drop skip bs)
literals_from-skip at zero [] = refl
literals_from-skip at (suc skip) [] = refl
literals_from-skip at zero (b ∷ bs) = ap (λ (n : ℕ). literals_from n 0 (b ∷ bs)) (omega arith)
literals_from-skip at (suc skip) (b ∷ bs) =
    literals_from-skip (at + 1) skip bs ∙ ap (λ (n : ℕ). literals_from n 0 (drop skip bs)) (omega arith)

piece-step : (at n b : ℕ) (bs : List ℕ) → 0 < n → literals_from (at + 1) (n - 1) bs ≡ literals_from (at + n) 0 (drop n (b ∷ bs))
piece-step at zero b bs some = absurd (omega arith)
piece-step at (suc n) b bs some =
    ap (λ (k : ℕ). literals_from (at + 1) k bs) (omega arith) ∙ literals_from-skip (at + 1) n bs
    ∙ ap (λ (k : ℕ). literals_from k 0 (drop n bs)) (omega arith)

-- the literal of a piece, and those behind the piece
pub literals_from-step : (at : ℕ) (bs : List ℕ) → 0 < length bs → 0 < piece_len bs
    → literals_from at 0 bs ≡ value_at at bs ++ literals_from (at + piece_len bs) 0 (drop (piece_len bs) bs)
literals_from-step at [] some read = absurd (omega arith)
literals_from-step at (b ∷ bs) some read =
    ap (λ (later : List Span). value_at at (b ∷ bs) ++ later) (piece-step at (piece_len (b ∷ bs)) b bs read)

either-within : (is : Bool) (n m : ℕ) → n ≤ m → cond is 1 (1 + n) ≤ 1 + m
either-within true n m le = omega arith
either-within false n m le = omega arith

pub quoted_len-within : (e : Bool) (bs : List ℕ) → quoted_len e bs ≤ length bs
quoted_len-within e [] = omega arith
quoted_len-within true (b ∷ bs) = omega (arith, quoted_len-within false bs)
quoted_len-within false (b ∷ bs) = omega (arith, either-within (b == 34) _ _ (quoted_len-within (b == 92) bs))

between : (low less : ℕ) (spans : List Span) (high more : ℕ) → less ≡ low → high ≡ more → AreInOrder low spans high → AreInOrder less spans more
between low less spans high more e f h = subst (λ (n : ℕ). AreInOrder less spans n) f (subst (λ (n : ℕ). AreInOrder n spans high) (sym e) h)

earlier : (low less : ℕ) (spans : List Span) (high : ℕ) → less ≤ low → AreInOrder low spans high → AreInOrder less spans high
earlier low less [] high le h = omega (arith, h)
earlier low less (s ∷ spans) high le h = (omega (arith, h.0), h.1, h.2)

one-in_order : (is_quote is_key : Bool) (at len high : ℕ) (later : List Span) → AreInOrder (at + cond is_quote (1 + len) 1) later high
    → AreInOrder at (cond is_quote (cond is_key [] (record { start = at; end = at + (1 + len) } ∷ [])) [] ++ later) high
one-in_order true true at len high later h = earlier _ at later high (omega arith) h
one-in_order true false at len high later h = (omega arith, omega arith, h)
one-in_order false is_key at len high later h = earlier _ at later high (omega arith) h

piece-within : (is_quote : Bool) (len room : ℕ) → len ≤ room → cond is_quote (1 + len) 1 - 1 ≤ room
piece-within true len room le = omega arith
piece-within false len room le = omega arith

piece-some : (is_quote : Bool) (len : ℕ) → 1 ≤ cond is_quote (1 + len) 1
piece-some true len = omega arith
piece-some false len = omega arith

-- the literals lie behind what was read already, one behind the other
pub literals_from-in_order : (at skip : ℕ) (bs : List ℕ) → skip ≤ length bs → AreInOrder (at + skip) (literals_from at skip bs) (at + length bs)
literals_from-in_order at zero [] within = omega arith
literals_from-in_order at (suc skip) [] within = absurd (omega arith)
literals_from-in_order at (suc skip) (b ∷ bs) within =
    between (at + 1 + skip) _ (literals_from (at + 1) skip bs) (at + 1 + length bs) _ (omega arith) (omega arith) (literals_from-in_order (at + 1) skip bs (omega arith))
literals_from-in_order at zero (b ∷ bs) within =
    let len = quoted_len false bs in
    let piece = piece_len (b ∷ bs) in
    let some = piece-some (b == 34) len in
    let short = piece-within (b == 34) len (length bs) (quoted_len-within false bs) in
    let later = literals_from-in_order (at + 1) (piece - 1) bs short in
    between at _ _ (at + 1 + length bs) _ (omega arith) (omega arith)
    (one-in_order (b == 34) (begins_colon (drop len bs)) at len (at + 1 + length bs) (literals_from (at + 1) (piece - 1) bs)
    (between (at + 1 + (piece - 1)) _ _ (at + 1 + length bs) _ (omega arith) refl later))

pub literals-in_order : (text : List ℕ) → AreInOrder 0 (literals text) (length text)
literals-in_order text = between (0 + 0) 0 (literals text) (0 + length text) (length text) (omega arith) (omega arith) (literals_from-in_order 0 0 text (omega arith))

one-or-none : (is_quote is_key : Bool) (span : Span) (later : List Span) (room : ℕ) → length later ≤ room
    → length (cond is_quote (cond is_key [] (span ∷ [])) [] ++ later) ≤ 1 + room
one-or-none true true span later room le = omega arith
one-or-none true false span later room le = omega arith
one-or-none false is_key span later room le = omega arith

length-literals_from : (at skip : ℕ) (bs : List ℕ) → length (literals_from at skip bs) ≤ length bs
length-literals_from at skip [] = omega arith
length-literals_from at (suc skip) (b ∷ bs) = omega (arith, length-literals_from (at + 1) skip bs)
length-literals_from at zero (b ∷ bs) =
    let later = literals_from (at + 1) (piece_len (b ∷ bs) - 1) bs in
    let len = quoted_len false bs in
    let span : Span = record { start = at; end = at + (1 + len) } in
    omega (arith, one-or-none (b == 34) (begins_colon (drop len bs)) span later (length bs) (length-literals_from (at + 1) (piece_len (b ∷ bs) - 1) bs))

-- there are no more literals than bytes
pub length-literals : (text : List ℕ) → length (literals text) ≤ length text
length-literals text = length-literals_from 0 0 text
