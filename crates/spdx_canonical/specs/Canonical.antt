-- The canonical text of a licence expression: what is written for each of its words, and where
-- there is none.
use Rattle.std.specs.Prelude.{ℕ, Bool, true, false, not, ◌&&◌, List, [], ◌∷◌, ◌++◌, Option, Some, None, Result, Ok, Err, if◌then◌else◌, codes, unwrap_or, bytes_eq}
use Rattle.std.specs.Option.{option_map_or}
use Rattle.std.specs.Result.{ok_prefix}
use Rattle.spdx_requirement.specs.Rows.{Rows, LicenseRow}
use Rattle.spdx_requirement.specs.Flags.{is_gnu}
use Rattle.spdx_requirement.specs.Endings.{only, or_later, has_suffix, without_only}
use Rattle.spdx_catalogue.specs.LookUps.{listed}
use Rattle.spdx_lexer.specs.Modes.{lax}
use Rattle.spdx_lexer.specs.Words.{Word, Spdx, LicenseRef, Exception, AdditionRef, Unknown, Plus, OpenParen, CloseParen, With, And, Or, Fault, Unexpected, Span, Item, words}
use Rattle.spdx_requirement.specs.Texts.{reference_text}
use Rattle.spdx_lexer.specs.Reading.{reading}
use Rattle.spdx_parser.specs.Grammar.{later_row}

-- ---- what is written

-- The name that says which versions of a GNU licence are meant. Where a `+` follows: `-or-later`,
-- in place of a final `-only`. Where none follows: the ending that it has, or else `-only`.
abbrev pub gnu_name : Bool → List ℕ → List ℕ
gnu_name plus name =
    if plus then without_only name ++ or_later else if has_suffix name then name else name ++ only

-- the name that is written for a licence, where a `+` follows or not
abbrev pub written_name : Bool → LicenseRow → List ℕ
written_name plus r = if is_gnu r.flags then gnu_name plus r.name else r.name

-- the next word is `+`
abbrev pub plus_follows : List Word → Bool
plus_follows (Plus ∷ ws) = true
plus_follows _ = false

-- any other word: an operator in capitals, with a space on each side
abbrev pub word_text : Word → List ℕ
word_text (Spdx r) = r.name
word_text (LicenseRef d y) = reference_text (codes "LicenseRef-") d y
word_text (Exception r) = r.name
word_text (AdditionRef d y) = reference_text (codes "AdditionRef-") d y
word_text (Unknown x) = x
word_text Plus = codes "+"
word_text OpenParen = codes "("
word_text CloseParen = codes ")"
word_text With = codes " WITH "
word_text And = codes " AND "
word_text Or = codes " OR "

-- The text of all of them, where `joined` says that a GNU licence stands just before: a `+` there
-- is in its name.
abbrev pub text_behind : Bool → List Word → List ℕ
text_behind joined [] = []
text_behind joined (Spdx r ∷ ws) =
    written_name (plus_follows ws) r ++ text_behind (is_gnu r.flags) ws
text_behind true (Plus ∷ ws) = text_behind false ws
text_behind joined (w ∷ ws) = word_text w ++ text_behind false ws

-- the text of all words
abbrev pub canonical_text : List Word → List ℕ
canonical_text ws = text_behind false ws

-- ---- the canonical words

-- a GNU licence without an ending becomes the one that is listed with `-only`, any other stays
abbrev pub only_row : Rows → LicenseRow → LicenseRow
only_row c r =
    if is_gnu r.flags && not (has_suffix r.name)
    then unwrap_or (listed c.licenses (r.name ++ only)) r else r

-- with a `+` behind it a GNU licence becomes the one that is listed with `-or-later`, any other
-- stays
abbrev pub canonical_row : Rows → Bool → LicenseRow → LicenseRow
canonical_row c true r = if is_gnu r.flags then unwrap_or (later_row c r) r else r
canonical_row c false r = only_row c r

-- The words, where `word` says what becomes of a licence that a `+` follows or not. The `+` of a
-- GNU licence is gone, all else stays; `joined` says that one stands just before.
abbrev pub words_by : (Bool → LicenseRow → Word) → Bool → List Word → List Word
words_by word joined [] = []
words_by word joined (Spdx r ∷ ws) = word (plus_follows ws) r ∷ words_by word (is_gnu r.flags) ws
words_by word true (Plus ∷ ws) = words_by word false ws
words_by word joined (w ∷ ws) = w ∷ words_by word false ws

-- the words that a strict reader finds in the canonical text
abbrev pub canonical_words : Rows → List Word → List Word
canonical_words c ws = words_by (λ plus r. Spdx (canonical_row c plus r)) false ws

-- ---- where there is a canonical text

-- The first thing in the text that has no canonical text: a fault of the lexer, or a `+` that does
-- not stand directly behind a listed licence, where a licence was expected.
abbrev pub canonical_fault : Bool → List Item → Option (Fault × Span)
canonical_fault behind_spdx [] = None
canonical_fault behind_spdx (Err fault ∷ items) = Some fault
canonical_fault behind_spdx (Ok (Plus, s) ∷ items) =
    if behind_spdx then canonical_fault false items
    else Some (Unexpected (codes "<license>" ∷ []), s)
canonical_fault behind_spdx (Ok (Spdx r, s) ∷ items) = canonical_fault true items
canonical_fault behind_spdx (Ok (w, s) ∷ items) = canonical_fault false items

-- the answer to a text: no other text where the canonical one is the text itself
abbrev pub answer_to : List ℕ → Result (List ℕ) (Fault × Span) →
    Result (Option (List ℕ)) (Fault × Span)
answer_to text (Ok canonical) = Ok (if bytes_eq canonical text then None else Some canonical)
answer_to text (Err fault) = Err fault

-- The canonical text of the words that a lax reader finds in a text, or the fault for which it has
-- none.
abbrev pub canonical_of : Rows → List ℕ → Result (List ℕ) (Fault × Span)
canonical_of c text =
    let items : List Item = reading c lax 0 text in
    option_map_or (λ fault. Err fault) (canonical_fault false items)
    (Ok (canonical_text (words (ok_prefix items))))
