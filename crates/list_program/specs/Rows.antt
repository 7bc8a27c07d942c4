-- What it is to put a row behind others.
use Rattle.std.specs.Prelude.{◌≡◌, ℕ, suc, Bool, true, false, List, [], ◌∷◌, ◌++◌, Option, Some, None, length, map}

-- the line is the row behind these, and stands behind them now; or it is none
abbrev pub IsPut : {R A : Type 0} → (R → A) → (ℕ → List ℕ → Option A) → List ℕ →
    List R → List R → Bool → Type 0
IsPut {A = A} shown row line old new true =
    (r : A) × (row (length old) line ≡ Some r) × (map shown new ≡ map shown old ++ r ∷ []) ×
    (length new ≡ suc (length old))
IsPut shown row line old new false = row (length old) line ≡ None
