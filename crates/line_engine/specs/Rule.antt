-- What is said of a line.
use Rattle.std.specs.Prelude.{ℕ, Bool, List}

-- what is written for a line that stands behind these lines, whether it counts as refused, and what
-- is written behind all lines
pub record Rule : Type 0 where
  pub text : List (List ℕ) → List ℕ → List ℕ
  pub refuses : List ℕ → Bool
  pub closing : List (List ℕ) → List ℕ
