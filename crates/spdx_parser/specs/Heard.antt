-- What the words of an expression make of a listener.
use Rattle.std.specs.Prelude.{◌≡◌, List, [], ◌∷◌, Option, Some, None}
use Rattle.spdx_requirement.specs.Rows.{LicenseRow}
use Rattle.spdx_lexer.specs.Words.{Word}
use Rattle.spdx_parser.specs.Last.{Last, Due, Listed, next_last, last_of}

-- the listed licence that stands last
abbrev pub listed_last : Last → Option LicenseRow
listed_last (Listed r) = Some r
listed_last last = None

module _ {A : Type 0} (Hears : A → Option LicenseRow → Option Word → A → Type 0) where
  -- word by word, behind such a one
  abbrev pub Along : A → Last → List Word → A → Type 0
  Along from last [] to = from ≡ to
  Along from last (w ∷ ws) to =
      (next : A) × Hears from (listed_last last) (Some w) next × Along next (next_last last w) ws to

  -- all of them, from the start, and then the end
  pub record HearsAll (from : A) (ws : List Word) (to : A) : Type 0 where
    pub behind : A
    pub each : Along from Due ws behind
    pub end : Hears behind (listed_last (last_of ws)) None to
