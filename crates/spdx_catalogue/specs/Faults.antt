-- The printed texts of faults.
use Rattle.std.specs.Prelude.{ℕ, List, ◌++◌, codes}
use Rattle.std.specs.Fmt.{decimal}
use Rattle.spdx_catalogue.specs.declared.error.List as kind
use Rattle.spdx_catalogue.specs.declared.error.List.TheVariants.{Licenses, Exceptions}
use Rattle.spdx_catalogue.specs.declared.error.CatalogueError.{CatalogueError}
use Rattle.spdx_catalogue.specs.declared.error.CatalogueError.TheVariants.{BadName, OperatorName, NotAscending, BadIndex, TwoSuffixes, EmptyPrefix, UnlistedTarget}
use Rattle.spdx_catalogue.specs.declared.error.ReadFault.{ReadFault}
use Rattle.spdx_catalogue.specs.declared.error.ReadFault.TheVariants as read
use Rattle.spdx_tables.specs.Fields.{field_text}

abbrev pub list_text : kind.List → List ℕ
list_text Licenses = codes "licenses"
list_text Exceptions = codes "exceptions"

-- the list, the row and what is wrong with it
abbrev pub row_text : List ℕ → ℕ → List ℕ → List ℕ
row_text list row what = list ++ (codes " row " ++ (decimal row ++ (codes ": " ++ what)))

abbrev pub catalogue_fault_text : CatalogueError → List ℕ
catalogue_fault_text (BadName l row) = row_text (list_text l) row (codes "bad name")
catalogue_fault_text (OperatorName l row) = row_text (list_text l) row (codes "operator word")
catalogue_fault_text (NotAscending l row) = row_text (list_text l) row (codes "names do not ascend")
catalogue_fault_text (BadIndex l row) =
    row_text (list_text l) row (codes "index is not the position")
catalogue_fault_text (TwoSuffixes row) = row_text (codes "licenses") row (codes "two GNU suffixes")
catalogue_fault_text (EmptyPrefix row) = row_text (codes "imprecise") row (codes "empty prefix")
catalogue_fault_text (UnlistedTarget row) =
    row_text (codes "imprecise") row (codes "target is not listed")

abbrev pub read_text : ReadFault → List ℕ
read_text read.NotJson = codes "not JSON"
read_text read.Float = codes "floating-point number"
read_text (read.Shape field) = codes "bad or missing field " ++ field_text field
read_text (read.Catalogue fault) = catalogue_fault_text fault
