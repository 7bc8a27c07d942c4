-- The texts that a file of fields or elements declares, by their places.
use Rattle.std.specs.Prelude.{◌≡◌, ℕ, Bool, true, false, ◌&&◌, ◌||◌, not, nat_eq, nat_le, bytes_eq, List, [], ◌∷◌, ◌++◌, codes, Option, Some, None, map, filter, length, slice_range, if◌then◌else◌}
use Rattle.std.specs.List.{starts_with, list_any, slice_split}
use Rattle.std.specs.Char.{is_ascii_whitespace}
use Rattle.text_places.specs.declared.Span.{Span}
use Rattle.text_places.specs.declared.field_lines.Grammar.{Grammar}
use Rattle.text_places.specs.Fields.{fields_of}
use Rattle.text_places.specs.declared.element_texts.Element.{Element}
use Rattle.text_places.specs.Elements.{elements_of}
use Rattle.plain_manifests.specs.declared.form.PlainForm.{PlainForm}
use Rattle.plain_manifests.specs.declared.form.PlainForm.TheVariants.{Cabal, Appstream, Nuget, Msbuild, Ros}
use Rattle.plain_manifests.specs.Grammars.{IsGrammarOf, name_of, other_name_of}

-- what stands at a place; nothing past the end
abbrev pub text_at : List ℕ → Span → List ℕ
text_at bytes span =
    if nat_le span.start span.end && nat_le span.end (length bytes)
    then slice_range bytes span.start span.end else []

-- the attribute says that the element's text is an expression
abbrev pub tells_expression : List ℕ → Bool
tells_expression attribute =
    bytes_eq attribute (codes "type=\"expression\"") ||
    bytes_eq attribute (codes "type='expression'")

-- an element of this form with these attributes declares a license: in NuGet's an expression, as
-- one of the attributes says, and not a file
abbrev pub declares : PlainForm → List ℕ → Bool
declares Nuget attributes =
    list_any tells_expression (slice_split is_ascii_whitespace attributes)
declares form attributes = true

-- the form's licenses stand in elements
abbrev pub is_of_elements : PlainForm → Bool
is_of_elements Appstream = true
is_of_elements Nuget = true
is_of_elements Msbuild = true
is_of_elements Ros = true
is_of_elements form = false

-- where the texts of the elements of this name stand that declare a license
abbrev pub element_places : PlainForm → List ℕ → List ℕ → List Span
element_places form name bytes =
    map (λ (e : Element). e.text)
    (filter (λ (e : Element). declares form (text_at bytes e.attributes))
    (elements_of name bytes))

-- where the texts of the fields of this name stand
pub record AreFields (form : PlainForm) (name bytes : List ℕ) (places : List Span) : Type 0 where
  pub grammar : Grammar
  pub written : IsGrammarOf form name grammar
  pub places_are : places ≡ fields_of grammar bytes

-- so do they in elements, or else in fields
abbrev pub AreIn : Bool → PlainForm → List ℕ → List ℕ → List Span → Type 0
AreIn true form name bytes places = places ≡ element_places form name bytes
AreIn false form name bytes places = AreFields form name bytes places

-- where the texts of this name stand
abbrev pub AreNamed : PlainForm → List ℕ → List ℕ → List Span → Type 0
AreNamed form name bytes places = AreIn (is_of_elements form) form name bytes places

-- the same of another name, where there is one
abbrev pub AreOfName : PlainForm → List ℕ → Option (List ℕ) → List Span → Type 0
AreOfName form bytes None places = places ≡ []
AreOfName form bytes (Some name) places = AreNamed form name bytes places

abbrev pub AreOfOtherName : PlainForm → List ℕ → List Span → Type 0
AreOfOtherName form bytes places = AreOfName form bytes (other_name_of form) places

-- a version of Cabal's format has SPDX's expressions: 2.2 and those after it, told by one number
abbrev pub has_expressions : List ℕ → Bool
has_expressions [] = false
has_expressions (digit ∷ rest) =
    nat_le 50 digit && nat_le digit 57 && not (starts_with nat_eq (digit ∷ rest) (codes "2.0"))

-- the file names such a version
pub record HasVersion (bytes : List ℕ) (answer : Bool) : Type 0 where
  pub versions : List Span
  pub named : AreNamed Cabal (codes "cabal-version") bytes versions
  pub answers : answer ≡ list_any (λ v. has_expressions (text_at bytes v)) versions

-- the texts are SPDX's: in a Cabal file where its version has them, elsewhere always
abbrev pub IsOfSpdx : PlainForm → List ℕ → Bool → Type 0
IsOfSpdx Cabal bytes answer = HasVersion bytes answer
IsOfSpdx form bytes answer = answer ≡ true

-- where the texts of both names stand, those of the one before those of the other
pub record AreOfBoth (form : PlainForm) (bytes : List ℕ) (places : List Span) : Type 0 where
  pub first : List Span
  pub named : AreNamed form (name_of form) bytes first
  pub second : List Span
  pub others : AreOfOtherName form bytes second
  pub places_are : places ≡ first ++ second

-- so where they are SPDX's, else there are none
abbrev pub AreIf : Bool → PlainForm → List ℕ → List Span → Type 0
AreIf true form bytes places = AreOfBoth form bytes places
AreIf false form bytes places = places ≡ []

-- where the texts stand that a file declares
pub record ArePlaces (form : PlainForm) (bytes : List ℕ) (places : List Span) : Type 0 where
  pub is_read : Bool
  pub of_spdx : IsOfSpdx form bytes is_read
  pub read : AreIf is_read form bytes places
