-- Which references documents have.
use Rattle.std.specs.Prelude.{ℕ, ◌<◌, List, [], map, flat_map, length, slice_index_or, Contains}
use Rattle.std.specs.Borrow.{Bor}
use Rattle.std.specs.declared.cmp.Ordering.{Ordering}
use Rattle.std.specs.Ordering.{nat_cmp}
use Rattle.std.specs.Cmp.Lexicographic.{slice_cmp}
use Rattle.package_items.specs.declared.package.Package.{Package}
use Rattle.package_items.specs.Rows.{LicenseRow, unstated, stated, PackageRow, row_of}
use Rattle.package_files.specs.Texts.{references_in}

-- the order of texts, byte by byte
abbrev pub text_cmp : List ℕ → List ℕ → Ordering
text_cmp x y = slice_cmp nat_cmp x y

abbrev pub references_stated : LicenseRow → List (List ℕ)
references_stated unstated = []
references_stated (stated text) = references_in text

abbrev pub references_by : PackageRow → List (List ℕ)
references_by p = references_stated p.license

-- the references of a document's packages
abbrev pub references_of : List PackageRow → List (List ℕ)
references_of packages = flat_map references_by packages

abbrev pub document_of : Bor (List Package) → List PackageRow
document_of d = map row_of d.now

abbrev pub documents_of : List (Bor (List Package)) → List (List PackageRow)
documents_of documents = map document_of documents

-- whether the document of that number has the reference
abbrev pub Has : List (List PackageRow) → ℕ → List ℕ → Type 0
Has documents number reference =
    (number < length documents) ×
    Contains (references_of (slice_index_or documents number [])) reference

-- whether two documents have it
abbrev pub Shared : List (List PackageRow) → List ℕ → Type 0
Shared documents reference =
    (i : ℕ) × ((j : ℕ) × ((i < j) × Has documents i reference × Has documents j reference))
