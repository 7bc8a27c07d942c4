-- Which texts name a licensee, and the fault of one that does not.
use Rattle.std.specs.Prelude.{◌≡◌, ℕ, Bool, true, false, List, [], ◌∷◌, ◌++◌, length, map, Option, Some, None, option_map, option_and_then, Ok, Err, if◌then◌else◌, codes}
use Rattle.std.specs.List.{list_any}
use Rattle.spdx_requirement.specs.Rows.{Rows}
use Rattle.spdx_requirement.specs.Flags.{is_deprecated}
use Rattle.spdx_requirement.specs.Items.{LicenseTerm, listed, referred, Addition, excepted, added, Requirement}
use Rattle.spdx_lexer.specs.Words.{Word, Spdx, LicenseRef, Exception, AdditionRef, With, Fault, Empty, Unexpected, DeprecatedLicenseId, Span, span, Item, Placed, words}
use Rattle.spdx_lexer.specs.Modes.{strict}
use Rattle.spdx_lexer.specs.Reading.{reading}

-- a listed licence that is not deprecated, without a mark, or a reference
abbrev pub license_named : Word → Option LicenseTerm
license_named (Spdx row) = if is_deprecated row.flags then None else Some (listed row false)
license_named (LicenseRef document name) =
    Some (referred (record { document = document; name = name }))
license_named w = None

-- an exception, deprecated or not, or a reference
abbrev pub addition_named : Word → Option Addition
addition_named (Exception row) = Some (excepted row)
addition_named (AdditionRef document name) =
    Some (added (record { document = document; name = name }))
addition_named w = None

-- a licence, or a licence, WITH and an addition
abbrev pub licensee_named : List Word → Option Requirement
licensee_named (l ∷ []) =
    option_map (λ license. record { license = license; addition = None }) (license_named l)
licensee_named (l ∷ With ∷ a ∷ []) =
    option_and_then (λ license.
    option_map (λ addition. record { license = license; addition = Some addition })
    (addition_named a)) (license_named l)
licensee_named ws = None

-- the words begin a licensee's, or are all of them
abbrev pub Begins : List Word → Type 0
Begins ws = (more : List Word) × (req : Requirement) × (licensee_named (ws ++ more) ≡ Some req)

-- the fault of a word behind others with which no licensee goes on
abbrev pub licensee_word_fault : List Word → Word → Fault
licensee_word_fault [] (Spdx row) = DeprecatedLicenseId
licensee_word_fault [] w = Unexpected (codes "<license>" ∷ [])
licensee_word_fault (l ∷ []) w = Unexpected (codes "WITH" ∷ [])
licensee_word_fault (l ∷ joiner ∷ []) w = Unexpected (codes "<addition>" ∷ [])
licensee_word_fault (l ∷ joiner ∷ a ∷ ws) w = Unexpected []

-- the fault of a text of so many bytes that ends behind these words, and where it stands
abbrev pub licensee_end_fault : ℕ → List Word → Fault × Span
licensee_end_fault len [] = (Empty, span 0 len)
licensee_end_fault len (l ∷ ws) = (Unexpected (codes "<addition>" ∷ []), span len 0)

-- the text reads, in the strict form, as the words of a licensee
abbrev pub Names : Rows → List ℕ → Requirement → Type 0
Names c text req =
    (read : List Placed) × (reading c strict 0 text ≡ map Ok read) ×
    (licensee_named (words read) ≡ Some req)

-- the text names no licensee
abbrev pub NamesNone : Rows → List ℕ → Type 0
NamesNone c text = (req : Requirement) → Names c text req → ⊥

-- The fault of a text: that of the first word with which no licensee goes on; where there is none,
-- that of the first place that is no word; where there is none, that of the end.
pub data IsLicenseeFault (c : Rows) (text : List ℕ) : Fault → Span → Type 0 where
  at_word : (read : List Placed) (w : Word) {s : Span} (more : List Item) →
      reading c strict 0 text ≡ map Ok read ++ Ok (w, s) ∷ more
      → Begins (words read) → (Begins (words read ++ w ∷ []) → ⊥) →
      IsLicenseeFault c text (licensee_word_fault (words read) w) s
  at_place : (read : List Placed) {f : Fault} {s : Span} (more : List Item) →
      reading c strict 0 text ≡ map Ok read ++ Err (f, s) ∷ more
      → Begins (words read) → IsLicenseeFault c text f s
  at_end : (read : List Placed) → reading c strict 0 text ≡ map Ok read
      → Begins (words read) → licensee_named (words read) ≡ None →
      IsLicenseeFault c text (licensee_end_fault (length text) (words read)).0
      (licensee_end_fault (length text) (words read)).1

abbrev pub is_reference : Word → Bool
is_reference (LicenseRef document name) = true
is_reference (AdditionRef document name) = true
is_reference w = false

abbrev pub item_is_reference : Item → Bool
item_is_reference (Ok placed) = is_reference placed.0
item_is_reference (Err fault) = false

-- some word of the text is a reference
abbrev pub has_reference : Rows → List ℕ → Bool
has_reference c text = list_any item_is_reference (reading c strict 0 text)
