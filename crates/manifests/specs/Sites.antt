-- The expressions of a manifest, each at its place.
use Rattle.std.specs.Prelude.{◌≡◌, ◌≤◌, nat_eq, length, ℕ, Bool, true, false, not, ◌||◌, if◌then◌else◌, bytes_eq, List, [], ◌∷◌, codes, Option, Some, None, map, All, drop, filter, slice_get, ⊤}
use Rattle.std.specs.Str.{IsUtf8, IsValidUpTo}
use Rattle.std.specs.List.{starts_with}
use Rattle.std.specs.List.Sorted.{IsStrictlyIncreasing}
use Rattle.serde_json.specs.Data.{Data}
use Rattle.serde_json.specs.Read.{read}
use Rattle.toml.specs.Data.{Members}
use Rattle.toml.specs.Parse.{parse_document}
use Rattle.json_places.specs.declared.path.Step as json
use Rattle.json_places.specs.Paths as json_paths
use Rattle.json_places.specs.Places as json_places
use Rattle.toml_places.specs.declared.path.Step as toml
use Rattle.toml_places.specs.Paths as toml_paths
use Rattle.toml_places.specs.Places as toml_places
use Rattle.json_places.specs.Mended as json_mended
use Rattle.toml_places.specs.Mended as toml_mended
use Rattle.text_places.specs.declared.Span.{Span}
use Rattle.manifests.specs.declared.form.Form.{Form}
use Rattle.manifests.specs.declared.form.Form.TheVariants.{Npm, Composer, Cargo, Pyproject, Reuse, Plain}
use Rattle.manifests.specs.declared.site.ManifestError.{ManifestError}
use Rattle.manifests.specs.declared.site.ManifestError.TheVariants.{Refused, NoMemory}
use Rattle.manifests.specs.declared.site.Reason.{Reason}
use Rattle.manifests.specs.declared.site.Reason.TheVariants.{NotUtf8, NotJson, NotToml, NoPlace}
use Rattle.manifests.specs.declared.site.Site.{Site}
use Rattle.plain_manifests.specs.declared.form.PlainForm.{PlainForm}
use Rattle.plain_manifests.specs.declared.sites.PlainSite.{PlainSite}
use Rattle.plain_manifests.specs.Sites.{ArePlainSites, MendsPlain, StaysPlain}
use Rattle.manifests.specs.Json.{license_paths, license_texts}
use Rattle.manifests.specs.Steps.{Step, of_json, of_toml}
use Rattle.manifests.specs.Toml.{cargo_paths, cargo_texts, pyproject_paths, pyproject_texts, reuse_paths, reuse_texts}

-- npm's words for a license that is told elsewhere, or that nobody is given
abbrev pub is_word_of_npm : List ℕ → Bool
is_word_of_npm text =
    starts_with nat_eq text (codes "SEE LICENSE IN ") || bytes_eq text (codes "UNLICENSED")

-- the text is an expression, and no word of the form's own
abbrev pub is_expression : Form → List ℕ → Bool
is_expression Npm text = not (is_word_of_npm text)
is_expression Composer text = not (bytes_eq text (codes "proprietary"))
is_expression form text = true

-- of these texts of a document and the ways to them, the site is the literal of the text of its
-- number, at the very member to which the way of that number leads
pub record IsInJson (bytes : List ℕ) (document : Data) (texts : List (List ℕ))
    (paths : List (List Step)) (site : Site) : Type 0 where
  pub number : slice_get texts site.number ≡ Some site.text.items
  pub steps : List json.Step
  pub path : slice_get paths site.number ≡ Some (map of_json steps)
  pub text : json_paths.text_at steps document ≡ Some site.text.items
  pub stands : json_places.Stands bytes document steps site.span
  pub quotes : site.quotes ≡ 1

-- the numbers of these sites
abbrev pub numbers_of : List Site → List ℕ
numbers_of sites = map (λ (s : Site). s.number) sites

-- the sites are the expressions that the document declares, each once, in the order of its members
-- and so of their numbers, each at its place
pub record AreSitesOfJson (form : Form) (bytes : List ℕ) (sites : List Site) : Type 0 where
  pub document : Data
  pub reads : read bytes ≡ Some document
  pub texts : map (λ (s : Site). s.text.items) sites ≡ filter (is_expression form)
      (license_texts document)
  pub places : All (IsInJson bytes document (license_texts document) (license_paths document)) sites
  pub ascend : IsStrictlyIncreasing (numbers_of sites)

-- what the document of a form declares
abbrev pub texts_of_toml : Form → Members → List (List ℕ)
texts_of_toml Cargo document = cargo_texts document
texts_of_toml Pyproject document = pyproject_texts document
texts_of_toml form document = reuse_texts document

-- and the ways to it
abbrev pub paths_of_toml : Form → Members → List (List Step)
paths_of_toml Cargo document = cargo_paths document
paths_of_toml Pyproject document = pyproject_paths document
paths_of_toml form document = reuse_paths document

-- three quotes of one kind, which open a text that may go over several lines
abbrev pub opens_with_three : List ℕ → Bool
opens_with_three bytes =
    starts_with nat_eq bytes (codes "\"\"\"") || starts_with nat_eq bytes (codes "'''")

-- how many bytes of quotes stand before the text of the literal that starts there: three of them
-- open it, or one
abbrev pub quotes_at : List ℕ → ℕ → ℕ
quotes_at bytes start = if opens_with_three (drop start bytes) then 3 else 1

-- the same of TOML
pub record IsInToml (bytes : List ℕ) (document : Members) (texts : List (List ℕ))
    (paths : List (List Step)) (site : Site) : Type 0 where
  pub number : slice_get texts site.number ≡ Some site.text.items
  pub steps : List toml.Step
  pub path : slice_get paths site.number ≡ Some (map of_toml steps)
  pub text : toml_paths.text_at steps document ≡ Some site.text.items
  pub stands : toml_places.Stands bytes document steps site.span
  pub quotes : site.quotes ≡ quotes_at bytes site.span.start

-- the sites are the expressions that the document declares, each once, in the order of their
-- numbers, each at its place
pub record AreSitesOfToml (form : Form) (bytes : List ℕ) (sites : List Site) : Type 0 where
  pub document : Members
  pub reads : parse_document bytes ≡ Some document
  pub texts : map (λ (s : Site). s.text.items) sites ≡ texts_of_toml form document
  pub places : All (IsInToml bytes document (texts_of_toml form document)
      (paths_of_toml form document)) sites
  pub ascend : IsStrictlyIncreasing (numbers_of sites)

-- the site is the one of a file of fields or elements, which has no quotes in its place
pub record IsPlain (found : PlainSite) (site : Site) : Type 0 where
  pub span : site.span ≡ found.span
  pub quotes : site.quotes ≡ 0
  pub number : site.number ≡ found.number
  pub text : site.text.items ≡ found.text.items

-- so each of them is, one after the other
abbrev pub AreEach : List PlainSite → List Site → Type 0
AreEach [] [] = ⊤
AreEach (found ∷ others) (site ∷ sites) = IsPlain found site × AreEach others sites
AreEach [] (site ∷ sites) = ⊥
AreEach (found ∷ others) [] = ⊥

-- the bytes begin with a mark that tells them to be UTF-16
abbrev pub is_utf16 : List ℕ → Bool
is_utf16 bytes =
    starts_with nat_eq bytes (255 ∷ 254 ∷ []) || starts_with nat_eq bytes (254 ∷ 255 ∷ [])

-- fields and elements are read of bytes in which ASCII stands as it is, and so of no UTF-16
abbrev pub IsLegible : Form → List ℕ → Type 0
IsLegible (Plain form) bytes = is_utf16 bytes ≡ false
IsLegible form bytes = ⊤

-- the sites are the expressions that a file of fields or elements declares, each at its place
pub record AreSitesOfPlain (form : PlainForm) (bytes : List ℕ) (sites : List Site) : Type 0 where
  pub legible : is_utf16 bytes ≡ false
  pub found : List PlainSite
  pub declared : ArePlainSites form bytes found
  pub each : AreEach found sites

-- a `/` means OR
abbrev pub reads_slash : Form → Bool
reads_slash Cargo = true
reads_slash form = false

-- the sites are the expressions that a manifest of the form declares, each at its place
abbrev pub AreSites : Form → List ℕ → List Site → Type 0
AreSites Cargo bytes sites = AreSitesOfToml Cargo bytes sites
AreSites Pyproject bytes sites = AreSitesOfToml Pyproject bytes sites
AreSites Reuse bytes sites = AreSitesOfToml Reuse bytes sites
AreSites (Plain form) bytes sites = AreSitesOfPlain form bytes sites
AreSites form bytes sites = AreSitesOfJson form bytes sites

-- no site has the number
abbrev pub HasNone : (Site → Type 0) → ℕ → Type 0
HasNone IsSite number = (site : Site) → site.number ≡ number → IsSite site → ⊥

-- one of these texts, which is an expression, has no site
pub record LacksSite (IsSite : Site → Type 0) (wanted : List ℕ → Bool)
    (texts : List (List ℕ)) : Type 0 where
  pub number : ℕ
  pub text : List ℕ
  pub declared : slice_get texts number ≡ Some text
  pub expression : wanted text ≡ true
  pub nowhere : HasNone IsSite number

-- an expression that the document declares has no site
pub record IsUnplacedJson (form : Form) (bytes : List ℕ) : Type 0 where
  pub document : Data
  pub reads : read bytes ≡ Some document
  pub lacks : LacksSite (IsInJson bytes document (license_texts document) (license_paths document))
      (is_expression form) (license_texts document)

-- the same of TOML
pub record IsUnplacedToml (form : Form) (bytes : List ℕ) : Type 0 where
  pub document : Members
  pub reads : parse_document bytes ≡ Some document
  pub lacks : LacksSite
      (IsInToml bytes document (texts_of_toml form document) (paths_of_toml form document))
      (λ text. true) (texts_of_toml form document)

-- what is wrong with bytes that are no manifest of JSON, and at which of them: they are no JSON, or
-- an expression that they declare has no site
abbrev pub IsFaultOfJson : Form → List ℕ → Reason → ℕ → Type 0
IsFaultOfJson form bytes NotJson at = (IsUtf8 bytes → read bytes ≡ None) × (at ≤ length bytes)
IsFaultOfJson form bytes NoPlace at = IsUnplacedJson form bytes × (at ≡ 0)
IsFaultOfJson form bytes reason at = ⊥

-- the same of TOML; where they are no UTF-8, it is the first byte that is part of no character
abbrev pub IsFaultOfToml : Form → List ℕ → Reason → ℕ → Type 0
IsFaultOfToml form bytes NotUtf8 at = (IsUtf8 bytes → ⊥) × IsValidUpTo bytes at
IsFaultOfToml form bytes NotToml at = (parse_document bytes ≡ None) × (at ≤ length bytes)
IsFaultOfToml form bytes NoPlace at = IsUnplacedToml form bytes × (at ≡ 0)
IsFaultOfToml form bytes reason at = ⊥

-- the same of fields or elements, which are refused for a mark of UTF-16 and nothing else
abbrev pub IsFaultOfPlain : List ℕ → Reason → ℕ → Type 0
IsFaultOfPlain bytes NotUtf8 at = (is_utf16 bytes ≡ true) × (IsUtf8 bytes → ⊥) × (at ≡ 0)
IsFaultOfPlain bytes reason at = ⊥

-- what is wrong with bytes that are no manifest of the form, and at which of them
abbrev pub IsFault : Form → List ℕ → Reason → ℕ → Type 0
IsFault Cargo bytes reason at = IsFaultOfToml Cargo bytes reason at
IsFault Pyproject bytes reason at = IsFaultOfToml Pyproject bytes reason at
IsFault Reuse bytes reason at = IsFaultOfToml Reuse bytes reason at
IsFault (Plain form) bytes reason at = IsFaultOfPlain bytes reason at
IsFault form bytes reason at = IsFaultOfJson form bytes reason at

-- the fault is this, if it is no want of memory
abbrev pub IsErrorBy : (Reason → ℕ → Type 0) → ManifestError → Type 0
IsErrorBy Is (Refused fault) = Is fault.reason fault.offset
IsErrorBy Is NoMemory = ⊤

-- why the expressions of a manifest aren't told
abbrev pub IsError : Form → List ℕ → ManifestError → Type 0
IsError form bytes error = IsErrorBy (IsFault form bytes) error

-- the literal of the text to which this way leads is replaced by the new text in quotes, every
-- other byte stays, and what is read is the document with the new text where the old one stood, and
-- every other value as before
pub record ChangesJson (bytes : List ℕ) (document : Data) (way : Option (List Step))
    (old new mended : List ℕ) : Type 0 where
  pub steps : List json.Step
  pub span : Span
  pub path : way ≡ Some (map of_json steps)
  pub text : json_paths.text_at steps document ≡ Some old
  pub stands : json_places.Stands bytes document steps span
  pub mends : json_mended.IsMended bytes document steps span new mended

-- so the declared text of that number is replaced, in the document that the bytes are read as
pub record MendsJson (bytes : List ℕ) (number : ℕ) (new mended : List ℕ) : Type 0 where
  pub document : Data
  pub reads : read bytes ≡ Some document
  pub old : List ℕ
  pub declared : slice_get (license_texts document) number ≡ Some old
  pub changes : ChangesJson bytes document (slice_get (license_paths document) number)
      old new mended

-- the same of TOML
pub record ChangesToml (bytes : List ℕ) (document : Members) (way : Option (List Step))
    (old new mended : List ℕ) : Type 0 where
  pub steps : List toml.Step
  pub span : Span
  pub path : way ≡ Some (map of_toml steps)
  pub text : toml_paths.text_at steps document ≡ Some old
  pub stands : toml_places.Stands bytes document steps span
  pub mends : toml_mended.IsMended bytes document steps span new mended

-- the same of what a form of TOML declares
pub record MendsToml (form : Form) (bytes : List ℕ) (number : ℕ)
    (new mended : List ℕ) : Type 0 where
  pub document : Members
  pub reads : parse_document bytes ≡ Some document
  pub old : List ℕ
  pub declared : slice_get (texts_of_toml form document) number ≡ Some old
  pub changes : ChangesToml bytes document (slice_get (paths_of_toml form document) number)
      old new mended

-- the manifest, with one of its literals replaced
abbrev pub Mends : Form → List ℕ → ℕ → List ℕ → List ℕ → Type 0
Mends Cargo bytes number new mended = MendsToml Cargo bytes number new mended
Mends Pyproject bytes number new mended = MendsToml Pyproject bytes number new mended
Mends Reuse bytes number new mended = MendsToml Reuse bytes number new mended
Mends (Plain form) bytes number new mended = MendsPlain form bytes number new mended
Mends form bytes number new mended = MendsJson bytes number new mended

-- there is no such manifest; of a file of fields or elements it is told why
abbrev pub Stays : Form → List ℕ → ℕ → List ℕ → Type 0
Stays (Plain form) bytes number new = StaysPlain form bytes number new
Stays form bytes number new = (mended : List ℕ) → Mends form bytes number new mended → ⊥
