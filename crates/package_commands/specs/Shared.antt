-- What is told of references that several of SPDX's documents have.
use Rattle.std.specs.Prelude.{◌≡◌, ◌↔◌, ℕ, ◌-◌, ◌||◌, Bool, true, false, List, [], ◌∷◌, ◌++◌, Contains, Option, None, Some, String, codes, filter, flat_map, length, map, nat_lt, string_bytes, take, if◌then◌else◌}
use Rattle.std.specs.declared.alloc.Global.{Global}
use Rattle.std.specs.Fmt.{decimal}
use Rattle.std.specs.List.Sorted.{IsStrictlySortedBy}
use Rattle.package_files.specs.Documents.{Shared, text_cmp}
use Rattle.package_items.specs.Rows.{PackageRow, row_of}
use Rattle.package_files.specs.declared.listed.Listed.{Listed}
use Rattle.package_files.specs.declared.listed.Source.{Source}
use Rattle.package_files.specs.declared.listed.Source.TheVariants as source
use Rattle.package_sources.specs.declared.form.Form.{Form}
use Rattle.package_sources.specs.declared.form.Form.TheVariants as form
use Rattle.spdx_troubles.specs.declared.trouble.Trouble.{Trouble}
use Rattle.spdx_troubles.specs.declared.trouble.Trouble.TheVariants as trouble

-- ---- which files are documents

abbrev pub is_spdx : Form → Bool
is_spdx form.Spdx = true
is_spdx form.SpdxThree = true
is_spdx _ = false

abbrev pub is_asked : Source → Bool
is_asked (source.Named x) = is_spdx x
is_asked _ = false

abbrev pub is_known : Option Form → Bool
is_known (Some x) = is_spdx x
is_known None = false

-- asked for as one, or known by its shape
abbrev pub is_document : Source → Listed → Bool
is_document how f = is_asked how || is_known f.guessed

abbrev pub rows_of : Listed → List PackageRow
rows_of f = map row_of f.packages.items

-- the packages of each of them
abbrev pub documents_in : Source → List Listed → List (List PackageRow)
documents_in how files = map rows_of (filter (is_document how) files)

-- ---- what is told of them

-- just the references that two of the documents have, by ascending bytes
pub record AreSharedBy (documents : List (List PackageRow)) (names : List (List ℕ)) : Type 0 where
  pub told : (r : List ℕ) → Contains names r ↔ Shared documents r
  pub ascend : IsStrictlySortedBy text_cmp names

abbrev pub other_names : List (List ℕ) → List ℕ
other_names names = flat_map (λ name. codes ", " ++ name) names

-- how many there are besides five, if there are more
abbrev pub more_names : ℕ → List ℕ
more_names count =
    if nat_lt 5 count then codes " and " ++ (decimal (count - 5) ++ codes " more") else []

-- the first five of them by name
abbrev pub names_text : List (List ℕ) → List ℕ
names_text [] = []
names_text (name ∷ names) =
    name ++ (other_names (take 4 names) ++ more_names (length (name ∷ names)))

-- none is told where there is none
abbrev pub AreToldAs : List (List ℕ) → List Trouble → Type 0
AreToldAs [] told = told ≡ []
AreToldAs (name ∷ names) told =
    (text : String Global) × (string_bytes text ≡ names_text (name ∷ names)) ×
    (told ≡ trouble.Shared text ∷ [])

pub record AreSharedTold (how : Source) (files : List Listed) (told : List Trouble) :
    Type 0 where
  pub names : List (List ℕ)
  pub shared : AreSharedBy (documents_in how files) names
  pub are : AreToldAs names told
