-- What is in a buffer after a text was put there.
use Rattle.std.specs.Prelude.{◌≡◌, ℕ, ◌<◌, ◌≤◌, List, ◌++◌, length, drop}
use Rattle.spdx_calls.specs.declared.buffer.Put.{Put}
use Rattle.spdx_calls.specs.declared.buffer.Put.TheVariants.{Whole, Short}

-- A text that fits stands at the front, and what is behind it stays; one that does not fit changes
-- nothing. Its length is told.
abbrev pub IsPut : List ℕ → List ℕ → List ℕ → Put → Type 0
IsPut text old new (Whole n) = (n ≡ length text) × ((n ≤ length old) × (new ≡ text ++ drop n old))
IsPut text old new (Short n) = (n ≡ length text) × ((length old < n) × (new ≡ old))
