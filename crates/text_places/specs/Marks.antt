-- A text with marks in place of its literals.
use Rattle.std.specs.Prelude.{ℕ, ◌+◌, List, [], ◌∷◌, ◌++◌, codes, drop, slice_range}
use Rattle.std.specs.Fmt.{decimal}
use Rattle.text_places.specs.declared.Span.{Span}

-- the text that marks a literal by its number, as `#7`
abbrev pub mark_text : ℕ → List ℕ
mark_text number = codes "#" ++ decimal number

-- the literal of that text
abbrev pub mark : ℕ → List ℕ
mark number = codes "\"" ++ (mark_text number ++ codes "\"")

-- the text from an offset on, with marks in place of the spans, the first of which has this number
abbrev pub marked_from : ℕ → ℕ → List ℕ → List Span → List ℕ
marked_from number offset text [] = drop offset text
marked_from number offset text (span ∷ spans) =
    slice_range text offset span.start ++
    (mark number ++ marked_from (number + 1) span.end text spans)

-- the text with each span replaced by the mark of its own number
abbrev pub marked : List ℕ → List Span → List ℕ
marked text spans = marked_from 0 0 text spans
