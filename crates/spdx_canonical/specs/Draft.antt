-- A text that is written piece by piece, beside the text that it may turn out to be.
use Rattle.std.specs.Prelude.{◌≡◌, ℕ, false, List, ◌++◌, Option, Some, None, if◌then◌else◌, bytes_eq, nat_eq}
use Rattle.std.specs.List.{starts_with}

-- the other text, and the bytes that were written
pub record Drafted : Type 0 where
  pub text : List ℕ
  pub bytes : List ℕ

-- with a piece more
abbrev pub extended : Drafted → List ℕ → Drafted
extended d piece = record { text = d.text; bytes = d.bytes ++ piece }

-- the other text does not begin with the bytes and the piece behind them
abbrev pub IsOff : Drafted → List ℕ → Type 0
IsOff d piece = starts_with nat_eq d.text (d.bytes ++ piece) ≡ false

-- the bytes, unless they are the text
abbrev pub difference : Drafted → Option (List ℕ)
difference d = if bytes_eq d.bytes d.text then None else Some d.bytes
