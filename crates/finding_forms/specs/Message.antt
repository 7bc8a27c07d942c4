-- What is wrong and what helps, as one text, and the place.
use Rattle.std.specs.Prelude.{ℕ, List, [], ◌∷◌, ◌++◌, Bool, true, false, if◌then◌else◌, codes, decimal}
use Rattle.foreign_text.specs.declared.sinks.Sink.{Sink}
use Rattle.foreign_text.specs.Written.{text_for}
use Rattle.finding_forms.specs.Finding.{Aid, nothing, write, names, note, Told}

abbrev pub helps : Aid → Bool
helps nothing = false
helps (write mended) = true
helps (names [] rule) = false
helps (names (first ∷ others) rule) = true
helps (note words) = true

-- the text between backquotes
abbrev pub named : Sink → List ℕ → List ℕ
named how text = codes "`" ++ (text_for how text ++ codes "`")

-- what follows the first of several names: commas, and `or` before the last
abbrev pub other_names : Sink → List (List ℕ) → List ℕ
other_names how [] = []
other_names how (last ∷ []) = codes " or " ++ named how last
other_names how (name ∷ next ∷ others) =
    codes ", " ++ (named how name ++ other_names how (next ∷ others))

-- the names as a question, where there are any
abbrev pub names_text : Sink → List (List ℕ) → List ℕ
names_text how [] = []
names_text how (first ∷ others) =
    codes "did you mean " ++ (named how first ++ (other_names how others ++ codes "?"))

abbrev pub help_text : Sink → Aid → List ℕ
help_text how nothing = []
help_text how (write mended) = codes "write " ++ named how mended
help_text how (names listed rule) = names_text how listed
help_text how (note words) = text_for how words

-- the reason, and behind it what helps
abbrev pub message_text : Sink → Told → List ℕ
message_text how t =
    text_for how t.reason ++ (if helps t.aid then codes "; " ++ help_text how t.aid else [])

-- the file, the line and the column of the fault
abbrev pub place_text : Sink → Told → List ℕ
place_text how t =
    text_for how t.file ++ (58 ∷ (decimal t.seen.line ++ (58 ∷ decimal t.seen.column)))
