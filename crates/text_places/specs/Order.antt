-- Places that follow one another.
use Rattle.std.specs.Prelude.{ℕ, ◌≤◌, List, [], ◌∷◌}
use Rattle.text_places.specs.declared.Span.{Span}

-- the spans lie between these places, in order and apart from one another
abbrev pub AreInOrder : ℕ → List Span → ℕ → Type 0
AreInOrder low [] high = low ≤ high
AreInOrder low (span ∷ spans) high =
    (low ≤ span.start) × (span.start ≤ span.end) × AreInOrder span.end spans high
