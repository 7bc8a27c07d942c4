-- The word at the front of a text that begins with no white space, by rules of which the first that
-- applies holds.
use Rattle.std.specs.Prelude.{ℕ, ◌||◌, ◌&&◌, ◌==◌, List, [], ◌∷◌, length, drop, Option, Some, None, Result, Ok, Err, option_map, option_and_then, ok_or, if◌then◌else◌, bytes_eq, codes}
use Rattle.spdx_requirement.specs.Rows.{Rows, LicenseRow}
use Rattle.spdx_requirement.specs.Texts.{reference_text}
use Rattle.spdx_catalogue.specs.LookUps.{listed, listed_exception, listed_caseless, listed_exception_caseless, imprecise_license}
use Rattle.spdx_lexer.specs.declared.token.ParseMode.{ParseMode}
use Rattle.spdx_lexer.specs.Words.{Word, Spdx, LicenseRef, Exception, AdditionRef, Unknown, Plus, OpenParen, CloseParen, With, And, Or, Fault, InvalidCharacters, UnknownTerm}
use Rattle.spdx_lexer.specs.Text.{name_at, run_at, strip}

-- the first that is found: a word, and how many bytes it takes
abbrev pub first_of : List (Option (Word × ℕ)) → Option (Word × ℕ)
first_of [] = None
first_of (None ∷ rules) = first_of rules
first_of (Some found ∷ rules) = Some found

-- the sign that the text begins with, of one byte: `+`, `(`, `)`, and `/` for OR where the mode
-- allows it
abbrev pub sign : ParseMode → List ℕ → Option (Word × ℕ)
sign m [] = None
sign m (b ∷ text) =
    option_map (λ w. (w, 1)) (
    if b == 43 then Some Plus else
    if b == 40 then Some OpenParen else
    if b == 41 then Some CloseParen else
    if b == 47 && m.allow_slash_as_or_operator then Some Or else None)

-- ---- what the run at the front of the text says

-- a word of the whole run
abbrev pub whole : List ℕ → Option Word → Option (Word × ℕ)
whole run word = option_map (λ w. (w, length run)) word

-- an operator stands in capitals or in small letters
abbrev pub operator : List ℕ → Option Word
operator run =
    if bytes_eq run (codes "AND") || bytes_eq run (codes "and") then Some And else
    if bytes_eq run (codes "OR") || bytes_eq run (codes "or") then Some Or else
    if bytes_eq run (codes "WITH") || bytes_eq run (codes "with") then Some With else None

-- the y of `LicenseRef-y` at the front of the run: the longest front of a name's bytes, perhaps
-- none
abbrev pub name_behind : List ℕ → List ℕ → Option (List ℕ)
name_behind prefix run = option_map name_at (strip prefix run)

-- the x and y of `DocumentRef-x:LicenseRef-y`, cut at the run's first `:`
abbrev pub names_behind : List ℕ → List ℕ → Option (List ℕ × List ℕ)
names_behind prefix run =
    option_and_then (λ rest.
    option_map (λ y. (name_at rest, y))
    (option_and_then (name_behind prefix)
    (strip (codes ":") (drop (length (name_at rest)) rest))))
    (strip (codes "DocumentRef-") run)

-- a reference takes the bytes of its own text, and leaves the rest of the run
abbrev pub reference : List ℕ → (Option (List ℕ) → List ℕ → Word) → List ℕ → Option (Word × ℕ)
reference prefix word run =
    option_map (λ y. (word None y, length (reference_text prefix None y))) (name_behind prefix run)

-- the same with a document
abbrev pub document_reference : List ℕ → (Option (List ℕ) → List ℕ → Word) → List ℕ →
    Option (Word × ℕ)
document_reference prefix word run =
    option_map (λ (n : List ℕ × List ℕ).
    (word (Some n.0) n.1, length (reference_text prefix (Some n.0) n.1)))
    (names_behind prefix run)

-- ---- the rules together

-- An operator, a listed name, a reference, a listed name in another case, an imprecise spelling,
-- which may go on behind the run or end within it, or any run at all.
abbrev pub rules : Rows → ParseMode → List ℕ → List ℕ → Option (Word × ℕ)
rules c m text run = first_of (
    whole run (operator run)
    ∷ whole run (option_map Spdx (listed c.licenses run))
    ∷ whole run (option_map Exception (listed_exception c.exceptions run))
    ∷ document_reference (codes "LicenseRef-") LicenseRef run
    ∷ reference (codes "LicenseRef-") LicenseRef run
    ∷ document_reference (codes "AdditionRef-") AdditionRef run
    ∷ reference (codes "AdditionRef-") AdditionRef run
    ∷ (if m.allow_caseless_ids then whole run (option_map Spdx (listed_caseless c.licenses run))
    else None)
    ∷ (if m.allow_caseless_ids
    then whole run (option_map Exception (listed_exception_caseless c.exceptions run))
    else None)
    ∷ (if m.allow_imprecise_license_names
    then option_map (λ (f : LicenseRow × ℕ). (Spdx f.0, f.1)) (imprecise_license c text)
    else None)
    ∷ (if m.allow_unknown then whole run (Some (Unknown run)) else None)
    ∷ [])

-- a sign, or else what was found by the run at the front of the text, which is not empty
abbrev pub lexeme_of : List ℕ → List ℕ → Option (Word × ℕ) → Option (Word × ℕ) →
    Result (Word × ℕ) (Fault × ℕ)
lexeme_of text run (Some found) by_run = Ok found
lexeme_of text [] None by_run = Err (InvalidCharacters, length text)
lexeme_of text (b ∷ run) None by_run = ok_or by_run (UnknownTerm, length (b ∷ run))

-- the word, or the fault, with how many bytes it takes
abbrev pub lexeme : Rows → ParseMode → List ℕ → Result (Word × ℕ) (Fault × ℕ)
lexeme c m text = lexeme_of text (run_at text) (sign m text) (rules c m text (run_at text))
