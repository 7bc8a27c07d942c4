-- What the calls that read a licensee answer, item by item.
use Rattle.std.specs.Prelude.{◌≡◌, ℕ, Bool, true, false, List, [], ◌∷◌, Option, Some, None, Result, Ok, Err, ok_or, codes, if◌then◌else◌}
use Rattle.spdx_requirement.specs.declared.failure.Failure.{Failure}
use Rattle.spdx_requirement.specs.declared.failure.Failure.TheVariants.{Refused, Memory}
use Rattle.spdx_requirement.specs.Items.{LicenseTerm, Addition, Requirement}
use Rattle.spdx_lexer.specs.declared.error.ParseError.{ParseError}
use Rattle.spdx_lexer.specs.Words.{Word, With, Fault, Unexpected, Span, span, Item}
use Rattle.spdx_lexer.specs.Faults.{fault_of}
use Rattle.spdx_lexer.specs.Code.{span_of}
use Rattle.spdx_licensee.specs.LicenseeText.{license_named, addition_named, licensee_word_fault, licensee_end_fault, item_is_reference}

-- it is no want of memory
abbrev pub TellsAFault : {E : Type 0} → Failure E → Type 0
TellsAFault (Refused e) = Unit {0}
TellsAFault (Memory m) = ⊥

-- a value, or a fault and where it stands
abbrev pub Answer : Type 0 → Type 0
Answer A = Result A (Fault × Span)

-- the call gives the answer, a fault with the text it speaks of, or finds no memory where it takes
-- some
abbrev pub Gives : {A B : Type 0} → (A → B) → List ℕ → Bool → Answer B →
    Result A (Failure ParseError) → Type 0
Gives view text takes answer (Ok value) = answer ≡ Ok (view value)
Gives view text takes answer (Err (Refused e)) =
    (answer ≡ Err (fault_of e.reason, span_of e.span)) × (e.original.now ≡ text)
Gives view text takes answer (Err (Memory m)) = takes ≡ true

-- the first item, if there is one, is a reference
abbrev pub starts_reference : Option Item → Bool
starts_reference None = false
starts_reference (Some item) = item_is_reference item

-- the licence that the first item is, of a text of so many bytes
abbrev pub license_at : ℕ → Option Item → Answer LicenseTerm
license_at len None = Err (licensee_end_fault len [])
license_at len (Some (Err fault)) = Err fault
license_at len (Some (Ok placed)) =
    ok_or (license_named placed.0) (licensee_word_fault [] placed.0, placed.1)

-- behind a licence
abbrev pub is_with : Word → Bool
is_with With = true
is_with w = false

abbrev pub with_at : Item → Answer (Unit {0})
with_at (Err fault) = Err fault
with_at (Ok placed) =
    if is_with placed.0 then Ok tt else Err (Unexpected (codes "WITH" ∷ []), placed.1)

-- behind WITH
abbrev pub addition_at : ℕ → Option Item → Answer Addition
addition_at len None = Err (Unexpected (codes "<addition>" ∷ []), span len 0)
addition_at len (Some (Err fault)) = Err fault
addition_at len (Some (Ok placed)) =
    ok_or (addition_named placed.0) (Unexpected (codes "<addition>" ∷ []), placed.1)

-- behind an addition
abbrev pub end_at : Option Item → Answer (Unit {0})
end_at None = Ok tt
end_at (Some (Err fault)) = Err fault
end_at (Some (Ok placed)) = Err (Unexpected [], placed.1)

abbrev pub first : List Item → Option Item
first [] = None
first (item ∷ more) = Some item

abbrev pub rest : List Item → List Item
rest [] = []
rest (item ∷ more) = more

-- the one answer, and then what comes of the other
abbrev pub and_then : {A B : Type 0} → Answer A → (A → Answer B) → Answer B
and_then (Err fault) next = Err fault
and_then (Ok value) next = next value

abbrev pub behind_addition : LicenseTerm → Addition → List Item → Answer Requirement
behind_addition license addition items =
    and_then (end_at (first items))
    (λ _. Ok (record { license = license; addition = Some addition }))

abbrev pub behind_with : ℕ → LicenseTerm → List Item → Answer Requirement
behind_with len license items =
    and_then (addition_at len (first items))
    (λ addition. behind_addition license addition (rest items))

abbrev pub behind_license : ℕ → LicenseTerm → List Item → Answer Requirement
behind_license len license [] = Ok (record { license = license; addition = None })
behind_license len license (item ∷ more) =
    and_then (with_at item) (λ _. behind_with len license more)

-- all of the items
abbrev pub licensee_at : ℕ → List Item → Answer Requirement
licensee_at len items =
    and_then (license_at len (first items)) (λ license. behind_license len license (rest items))
