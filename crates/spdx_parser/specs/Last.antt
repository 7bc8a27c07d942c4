-- What the last of some words stands as, and what may follow it.
use Rattle.std.specs.Prelude.{ℕ, Bool, true, false, List, [], ◌∷◌, codes}
use Rattle.std.specs.List.{fold}
use Rattle.spdx_requirement.specs.Rows.{LicenseRow}
use Rattle.spdx_lexer.specs.Words.{Word, Spdx, LicenseRef, Exception, AdditionRef, Unknown, Plus, OpenParen, CloseParen, With, And, Or}

-- what the last word stands as
pub data Last : Type 0 where
  -- no word, AND, OR or `(`: a licence or `(` is due
  Due : Last
  -- a listed licence
  Listed : LicenseRow → Last
  -- an unknown word as a licence
  Unlisted : Last
  -- a reference to a licence, or `+`
  Named : Last
  -- WITH
  Joined : Last
  -- an addition
  Added : Last
  -- `)`
  Closed : Last

-- an unknown word is an addition behind WITH, and a licence elsewhere
abbrev pub next_last : Last → Word → Last
next_last last (Spdx r) = Listed r
next_last last (LicenseRef d n) = Named
next_last last (Exception r) = Added
next_last last (AdditionRef d n) = Added
next_last Joined (Unknown n) = Added
next_last last (Unknown n) = Unlisted
next_last last Plus = Named
next_last last OpenParen = Due
next_last last CloseParen = Closed
next_last last With = Joined
next_last last And = Due
next_last last Or = Due

-- what the last of some words stands as, from the start of a text
abbrev pub last_of : List Word → Last
last_of ws = fold next_last Due ws

-- an Spdx, a LicenseRef, or an unknown word that does not follow WITH
abbrev pub is_license : Last → Word → Bool
is_license last (Spdx r) = true
is_license last (LicenseRef d n) = true
is_license Joined (Unknown n) = false
is_license last (Unknown n) = true
is_license last w = false

-- an expression can end behind a licence, `+`, an addition and `)`
abbrev pub is_closing : Last → Bool
is_closing Due = false
is_closing Joined = false
is_closing last = true

-- what is named as expected behind it
abbrev pub terms : Last → List (List ℕ)
terms Due = codes "<license>" ∷ codes "(" ∷ []
terms (Listed r) = codes "AND" ∷ codes "OR" ∷ codes "WITH" ∷ codes ")" ∷ codes "+" ∷ []
terms Unlisted = codes "AND" ∷ codes "OR" ∷ codes "WITH" ∷ codes ")" ∷ codes "+" ∷ []
terms Named = codes "AND" ∷ codes "OR" ∷ codes "WITH" ∷ codes ")" ∷ []
terms Joined = codes "<addition>" ∷ []
terms Added = codes "AND" ∷ codes "OR" ∷ codes ")" ∷ []
terms Closed = codes "AND" ∷ codes "OR" ∷ []
