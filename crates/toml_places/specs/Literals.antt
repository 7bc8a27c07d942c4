-- The literals of a TOML text that are values and no keys, as a scan finds them.
use Rattle.std.specs.Prelude.{ℕ, zero, suc, ◌+◌, ◌-◌, ◌==◌, ◌&&◌, ◌||◌, not, Bool, true, false, nat_eq, List, [], ◌∷◌, ◌++◌, length, take, drop, if◌then◌else◌}
use Rattle.std.specs.List.{prefix_len, starts_with}
use Rattle.text_places.specs.declared.Span.{Span}
use Rattle.toml_places.specs.declared.literals.Line.{Line}

-- a double or a single quote
abbrev pub is_quote : ℕ → Bool
is_quote b = b == 34 || b == 39

-- a backslash, between double quotes
abbrev pub is_escape : List ℕ → ℕ → Bool
is_escape quotes b = b == 92 && starts_with nat_eq quotes (34 ∷ [])

-- how many bytes of a literal stand behind its first quotes, or behind a later byte of it, up to
-- and with the quotes that end it; they do not begin behind an escape
abbrev pub quoted_len : List ℕ → Bool → List ℕ → ℕ
quoted_len quotes is_escaped [] = 0
quoted_len quotes true (b ∷ bs) = 1 + quoted_len quotes false bs
quoted_len quotes false (b ∷ bs) =
    if starts_with nat_eq (b ∷ bs) quotes then length quotes
    else (1 + quoted_len quotes (is_escape quotes b) bs)

-- how many quotes behind a literal of several lines belong to it still: a text may end in two of
-- them, before the three that end the literal
abbrev pub more_quotes : ℕ → List ℕ → ℕ
more_quotes quote bs = prefix_len (λ b. b == quote) (take 2 bs)

-- the length of the literal at the front, which begins with this quote
abbrev pub literal_len : ℕ → List ℕ → ℕ
literal_len quote bs =
    let three = quote ∷ quote ∷ quote ∷ [] in
    if starts_with nat_eq bs three then (
    let len = 3 + quoted_len three false (drop 3 bs) in
    len + more_quotes quote (drop len bs)
    )
    else (1 + quoted_len (quote ∷ []) false (drop 1 bs))

-- the length of the comment at the front, which ends before its line does
abbrev pub comment_len : List ℕ → ℕ
comment_len bs = prefix_len (λ b. not (b == 10)) bs

-- the length of the literal, the comment or the byte at the front
abbrev pub piece_len : List ℕ → ℕ
piece_len [] = 0
piece_len (b ∷ bs) =
    if is_quote b then literal_len b (b ∷ bs)
    else (if b == 35 then comment_len (b ∷ bs) else 1)

-- a space or a tab
abbrev pub is_blank : ℕ → Bool
is_blank b = b == 32 || b == 9

-- an equals sign or a dot is the first byte behind blanks, and what stands before it is a key
abbrev pub is_behind_key : List ℕ → Bool
is_behind_key [] = false
is_behind_key (b ∷ bs) = if is_blank b then is_behind_key bs else (b == 61 || b == 46)

-- how many brackets are open behind this byte
abbrev pub depth_behind : ℕ → ℕ → ℕ
depth_behind depth b = if b == 91 then depth + 1 else (if b == 93 then depth - 1 else depth)

-- a bracket is first in its line, and no other is open
abbrev pub opens_header : Line → ℕ → Bool
opens_header line b = b == 91 && line.is_fresh && line.depth == 0

-- where the scan is behind a piece that begins with this byte; brackets of a header do not count
abbrev pub line_behind : Line → ℕ → Line
line_behind line b =
    if is_blank b || b == 13 then line
    else (if b == 10 then record { depth = line.depth; is_fresh = true; is_header = false }
    else (if line.is_header || opens_header line b
    then record { depth = line.depth; is_fresh = false; is_header = true }
    else record { depth = depth_behind line.depth b; is_fresh = false; is_header = false }))

-- the piece at the front is a literal, and no key
abbrev pub is_value : Line → List ℕ → Bool
is_value line [] = false
is_value line (b ∷ bs) =
    is_quote b && not line.is_header && not (is_behind_key (drop (piece_len (b ∷ bs)) (b ∷ bs)))

-- that literal, of a text that begins there
abbrev pub value_at : Line → ℕ → List ℕ → List Span
value_at line at bs =
    if is_value line bs then (record { start = at; end = at + piece_len bs } ∷ []) else []

-- the literals in a text that begins there, of which so many bytes are read already
abbrev pub literals_from : Line → ℕ → ℕ → List ℕ → List Span
literals_from line at skip [] = []
literals_from line at (suc skip) (b ∷ bs) = literals_from line (at + 1) skip bs
literals_from line at zero (b ∷ bs) =
    value_at line at (b ∷ bs) ++
    literals_from (line_behind line b) (at + 1) (piece_len (b ∷ bs) - 1) bs

-- a text begins in a line of its own, outside all brackets
abbrev pub first_line : Line
first_line = record { depth = 0; is_fresh = true; is_header = false }

-- the literals of a whole text, in order
abbrev pub literals : List ℕ → List Span
literals text = literals_from first_line 0 0 text
