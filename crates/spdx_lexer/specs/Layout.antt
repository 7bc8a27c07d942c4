-- How the items of a text lie in it, and what stands at each.
use Rattle.std.specs.Prelude.{◌≡◌, ◌⊎◌, ℕ, ◌-◌, ◌≤◌, ◌<◌, true, List, [], ◌∷◌, take, drop, Option, Some, Ok, Err, IfSome, codes, slice_get, encode_utf8_all, IsCharBoundary}
use Rattle.std.specs.List.{list_all}
use Rattle.std.specs.Char.{is_whitespace}
use Rattle.std.specs.Str.{str_eq_ignore_ascii_case}
use Rattle.spdx_requirement.specs.Rows.{Rows, LicenseRow, ImpreciseRow}
use Rattle.spdx_catalogue.specs.Names.{is_name_byte}
use Rattle.spdx_lexer.specs.declared.token.ParseMode.{ParseMode}
use Rattle.spdx_lexer.specs.Words.{Word, Spdx, LicenseRef, Exception, AdditionRef, Unknown, Plus, OpenParen, CloseParen, With, And, Or, Fault, InvalidCharacters, SeparatedPlus, UnknownTerm, Span, Item}
use Rattle.spdx_requirement.specs.Texts.{reference_text}

-- ---- the bytes that a word stands for

-- the name, or the name but for the case of ASCII letters where the mode allows it
abbrev pub IsNamed : ParseMode → List ℕ → List ℕ → Type 0
IsNamed m name text =
    (text ≡ name) ⊎ ((m.allow_caseless_ids ≡ true) × (str_eq_ignore_ascii_case name text ≡ true))

-- the prefix of an imprecise name of that licence, but for the case of ASCII letters, where the
-- mode allows it
abbrev pub IsImprecise : Rows → ParseMode → LicenseRow → List ℕ → Type 0
IsImprecise c m r text =
    (m.allow_imprecise_license_names ≡ true)
    × ((row : ℕ) × ((n : ImpreciseRow) ×
    ((slice_get c.imprecise row ≡ Some n) ×
    ((n.name ≡ r.name) × (str_eq_ignore_ascii_case n.prefix text ≡ true)))))

-- the prefixes and the parts, which are of a name's bytes
abbrev pub IsReference : List ℕ → Option (List ℕ) → List ℕ → List ℕ → Type 0
IsReference prefix d y text =
    (text ≡ reference_text prefix d y) ×
    ((list_all is_name_byte y ≡ true) ×
    IfSome d (λ (x : List ℕ). list_all is_name_byte x ≡ true))

-- an id names the row of the catalogue that stands at its index
abbrev pub IsSpelt : Rows → ParseMode → Word → List ℕ → Type 0
IsSpelt c m (Spdx r) text =
    (slice_get c.licenses r.index ≡ Some r) × (IsNamed m r.name text ⊎ IsImprecise c m r text)
IsSpelt c m (LicenseRef d y) text = IsReference (codes "LicenseRef-") d y text
IsSpelt c m (Exception r) text = (slice_get c.exceptions r.index ≡ Some r) × IsNamed m r.name text
IsSpelt c m (AdditionRef d y) text = IsReference (codes "AdditionRef-") d y text
IsSpelt c m (Unknown x) text = (m.allow_unknown ≡ true) × (text ≡ x)
IsSpelt c m Plus text = text ≡ codes "+"
IsSpelt c m OpenParen text = text ≡ codes "("
IsSpelt c m CloseParen text = text ≡ codes ")"
IsSpelt c m With text = (text ≡ codes "WITH") ⊎ (text ≡ codes "with")
IsSpelt c m And text = (text ≡ codes "AND") ⊎ (text ≡ codes "and")
IsSpelt c m Or text =
    ((text ≡ codes "OR") ⊎ (text ≡ codes "or")) ⊎
    ((m.allow_slash_as_or_operator ≡ true) × (text ≡ codes "/"))

-- ---- places

-- white space alone
abbrev pub IsWhite : List ℕ → Type 0
IsWhite bytes = (cs : List ℕ) × ((list_all is_whitespace cs ≡ true) × (bytes ≡ encode_utf8_all cs))

-- the bytes from one place up to another
abbrev pub between : List ℕ → ℕ → ℕ → List ℕ
between text from to = take (to - from) (drop from text)

-- both ends are within the text, and on boundaries of its characters
abbrev pub IsPlace : List ℕ → Span → Type 0
IsPlace text s = (s.from ≤ s.to) × (IsCharBoundary text s.from × IsCharBoundary text s.to)

-- white space alone stands between
abbrev pub IsGap : List ℕ → ℕ → ℕ → Type 0
IsGap text from to = (from ≤ to) × IsWhite (between text from to)

abbrev pub IsLexical : Fault → Type 0
IsLexical fault = (fault ≡ InvalidCharacters) ⊎ ((fault ≡ SeparatedPlus) ⊎ (fault ≡ UnknownTerm))

-- The items behind a place of the text: each behind white space alone, on boundaries of characters,
-- a word over the bytes that it stands for; behind a fault there is none, and behind the last word
-- there is white space alone.
pub data AreLaid (c : Rows) (m : ParseMode) (text : List ℕ) : ℕ → List Item → Type 0 where
  ended : {at : ℕ} → IsWhite (drop at text) → AreLaid c m text at []
  stopped : {at : ℕ} {fault : Fault} {s : Span} → IsLexical fault → IsGap text at s.from →
      IsPlace text s → AreLaid c m text at (Err (fault, s) ∷ [])
  goes_on : {at : ℕ} {word : Word} {s : Span} {rest : List Item} → IsGap text at s.from →
      IsPlace text s → s.from < s.to → IsSpelt c m word (between text s.from s.to) →
      AreLaid c m text s.to rest → AreLaid c m text at (Ok (word, s) ∷ rest)

abbrev pub place_of : Item → Span
place_of (Ok found) = found.1
place_of (Err fault) = fault.1
