-- Texts, each once.
use Rattle.std.specs.Prelude.{ℕ, Bool, bytes_eq, List, [], ◌∷◌, ◌++◌, if◌then◌else◌, fold}
use Rattle.std.specs.List.{list_any}

abbrev pub is_among : List (List ℕ) → List ℕ → Bool
is_among texts text = list_any (λ other. bytes_eq other text) texts

-- one text more, if it is new
abbrev pub with_text : List (List ℕ) → List ℕ → List (List ℕ)
with_text known text = if is_among known text then known else known ++ text ∷ []

-- each text once, in the order in which they come first
abbrev pub each_once : List (List ℕ) → List (List ℕ)
each_once texts = fold with_text [] texts
