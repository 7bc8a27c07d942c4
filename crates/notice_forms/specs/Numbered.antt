-- Items with their places.
use Rattle.std.specs.Prelude.{ℕ, ◌+◌, List, [], ◌∷◌, ◌++◌}

-- what is written of each item and its place, counted from n
abbrev pub numbered : {A X : Type 0} → (ℕ → A → List X) → ℕ → List A → List X
numbered f n [] = []
numbered f n (x ∷ xs) = f n x ++ numbered f (n + 1) xs
