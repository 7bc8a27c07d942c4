-- How many parentheses some words leave open.
use Rattle.std.specs.Prelude.{◌≡◌, ℕ, ◌+◌, ◌≤◌, List, ◌++◌}
use Rattle.spdx_lexer.specs.Words.{Word}
use Rattle.spdx_parser.specs.Faults.{opens, closes}

-- so many `(` have no `)`, and each `)` has its `(` before it
pub record LeavesOpen (ws : List Word) (n : ℕ) : Type 0 where
  pub left : opens ws ≡ closes ws + n
  pub paired : (front more : List Word) → ws ≡ front ++ more → closes front ≤ opens front
