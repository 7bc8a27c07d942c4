-- The literals of a JSON text that are values and no keys, as a scan finds them.
use Rattle.std.specs.Prelude.{ℕ, zero, suc, ◌+◌, ◌-◌, ◌==◌, ◌||◌, Bool, true, false, List, [], ◌∷◌, ◌++◌, drop, if◌then◌else◌}
use Rattle.text_places.specs.declared.Span.{Span}

-- how many bytes of a literal stand behind its first quote, or behind a later byte of it, up to the
-- quote that ends it; behind a backslash no quote does
abbrev pub quoted_len : Bool → List ℕ → ℕ
quoted_len is_escaped [] = 0
quoted_len true (b ∷ bs) = 1 + quoted_len false bs
quoted_len false (b ∷ bs) = if b == 34 then 1 else (1 + quoted_len (b == 92) bs)

-- the length of the literal or the byte at the front
abbrev pub piece_len : List ℕ → ℕ
piece_len [] = 0
piece_len (b ∷ bs) = if b == 34 then 1 + quoted_len false bs else 1

-- white space between two tokens
abbrev pub is_blank : ℕ → Bool
is_blank b = b == 32 || b == 9 || b == 10 || b == 13

-- a colon is the first byte behind white space, and what stands before it is a key
abbrev pub begins_colon : List ℕ → Bool
begins_colon [] = false
begins_colon (b ∷ bs) = if is_blank b then begins_colon bs else b == 58

-- the literal at the front of a text that begins there, where it is one and no key
abbrev pub value_at : ℕ → List ℕ → List Span
value_at at [] = []
value_at at (b ∷ bs) =
    if b == 34 then (
    let len = quoted_len false bs in
    if begins_colon (drop len bs) then [] else (record { start = at; end = at + (1 + len) } ∷ [])
    )
    else []

-- the literals in a text that begins there, of which so many bytes are read already
abbrev pub literals_from : ℕ → ℕ → List ℕ → List Span
literals_from at skip [] = []
literals_from at (suc skip) (b ∷ bs) = literals_from (at + 1) skip bs
literals_from at zero (b ∷ bs) =
    value_at at (b ∷ bs) ++ literals_from (at + 1) (piece_len (b ∷ bs) - 1) bs

-- the literals of a whole text, in order
abbrev pub literals : List ℕ → List Span
literals text = literals_from 0 0 text
