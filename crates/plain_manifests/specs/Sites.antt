-- The expressions of a file of fields or elements, each at its place, and the file with another
-- one.
use Rattle.std.specs.Prelude.{◌≡◌, ◌≢◌, ◌⊎◌, ℕ, Bool, ◌&&◌, not, List, ◌++◌, None, Some, map, filter, All, set, take, drop, slice_get}
use Rattle.std.specs.List.{list_any}
use Rattle.std.specs.List.Sorted.{IsStrictlyIncreasing}
use Rattle.text_places.specs.declared.Span.{Span}
use Rattle.text_places.specs.Names.{is_one_of}
use Rattle.plain_manifests.specs.declared.form.PlainForm.{PlainForm}
use Rattle.plain_manifests.specs.declared.sites.PlainSite.{PlainSite}
use Rattle.plain_manifests.specs.Grammars.{is_word_of, marks_of}
use Rattle.plain_manifests.specs.Places.{ArePlaces, text_at}

-- the texts at these places
abbrev pub texts_at : List ℕ → List Span → List (List ℕ)
texts_at bytes places = map (text_at bytes) places

-- the text is an expression: nothing that the form's own language makes one of, and no word of the
-- form's own
abbrev pub is_expression : PlainForm → List ℕ → Bool
is_expression form text =
    not (list_any (is_one_of (marks_of form)) text) && not (is_word_of form text)

-- the site is the declared text of its number, at its place
pub record IsDeclared (bytes : List ℕ) (places : List Span) (site : PlainSite) : Type 0 where
  pub place : slice_get places site.number ≡ Some site.span
  pub text : site.text.items ≡ text_at bytes site.span

-- the numbers of these sites
abbrev pub numbers_of : List PlainSite → List ℕ
numbers_of sites = map (λ (s : PlainSite). s.number) sites

-- the sites are the expressions that the file declares, each once, in the order of their numbers
pub record ArePlainSites (form : PlainForm) (bytes : List ℕ) (sites : List PlainSite) : Type 0 where
  pub places : List Span
  pub declared : ArePlaces form bytes places
  pub texts : map (λ (s : PlainSite). s.text.items) sites ≡ filter (is_expression form)
      (texts_at bytes places)
  pub each : All (IsDeclared bytes places) sites
  pub ascend : IsStrictlyIncreasing (numbers_of sites)

-- the bytes with the new text at the place
abbrev pub with_text : List ℕ → Span → List ℕ → List ℕ
with_text bytes span new = take span.start bytes ++ (new ++ drop span.end bytes)

-- the file declares these texts
pub record ReadsSo (form : PlainForm) (texts : List (List ℕ)) (bytes : List ℕ) : Type 0 where
  pub places : List Span
  pub declared : ArePlaces form bytes places
  pub texts_are : texts_at bytes places ≡ texts

-- the file declares other texts than these
pub record ReadsOther (form : PlainForm) (texts : List (List ℕ)) (bytes : List ℕ) : Type 0 where
  pub places : List Span
  pub declared : ArePlaces form bytes places
  pub texts_are_not : texts_at bytes places ≢ texts

-- the texts that are to be declared: those of the file, with the new one at that number
abbrev pub wanted : List ℕ → List Span → ℕ → List ℕ → List (List ℕ)
wanted bytes places number new = set (texts_at bytes places) number new

-- the file has another text in place of the declared one of that number: every other byte stays,
-- and what it declares now is what it declared before but for that text
pub record MendsPlain (form : PlainForm) (bytes : List ℕ) (number : ℕ)
    (new mended : List ℕ) : Type 0 where
  pub places : List Span
  pub declared : ArePlaces form bytes places
  pub span : Span
  pub place : slice_get places number ≡ Some span
  pub spliced : mended ≡ with_text bytes span new
  pub reads : ReadsSo form (wanted bytes places number new) mended

-- with the new text at that place the file would declare something else
pub record ChangesOther (form : PlainForm) (bytes : List ℕ) (places : List Span) (number : ℕ)
    (new : List ℕ) : Type 0 where
  pub span : Span
  pub place : slice_get places number ≡ Some span
  pub other : ReadsOther form (wanted bytes places number new) (with_text bytes span new)

-- no declared text has that number, or the new one can't be written in its place as it is
pub record StaysPlain (form : PlainForm) (bytes : List ℕ) (number : ℕ) (new : List ℕ) : Type 0 where
  pub places : List Span
  pub declared : ArePlaces form bytes places
  pub why : (slice_get places number ≡ None) ⊎ ChangesOther form bytes places number new
