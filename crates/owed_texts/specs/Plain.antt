-- Texts as they are shown.
use Rattle.std.specs.Prelude.{ℕ, ◌==◌, Bool, true, false, List, [], ◌∷◌, ◌++◌, Option, None, Some, slice_get, if◌then◌else◌}
use Rattle.std.specs.Str.Lossy.{utf8_lossy}
use Rattle.foreign_text.specs.Written.{text_for}
use Rattle.foreign_text.specs.declared.sinks.Sink.TheVariants.{Lines}

-- a newline
abbrev pub is_newline : Option ℕ → Bool
is_newline None = false
is_newline (Some b) = b == 10

-- what stands in the place of a byte: a tab is four blanks, and what turns the page, and a return
-- before a newline, are left out
abbrev pub piece_of : ℕ → Option ℕ → List ℕ
piece_of b next =
    if b == 13 then (if is_newline next then [] else b ∷ []) else
    if b == 12 then [] else
    if b == 9 then 32 ∷ 32 ∷ 32 ∷ 32 ∷ [] else b ∷ []

abbrev pub spaced : List ℕ → List ℕ
spaced [] = []
spaced (b ∷ bytes) = piece_of b (slice_get bytes 0) ++ spaced bytes

-- without what a terminal obeys but newlines
abbrev pub plain : List ℕ → List ℕ
plain bytes = text_for Lines (utf8_lossy (spaced (utf8_lossy bytes)))

abbrev pub plain_if : Bool → List ℕ → List ℕ
plain_if false bytes = bytes
plain_if true bytes = plain bytes
