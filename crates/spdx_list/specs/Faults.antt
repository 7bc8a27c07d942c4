-- The printed texts of faults.
use Rattle.std.specs.Prelude.{ℕ, List, ◌++◌, codes}
use Rattle.std.specs.Fmt.{decimal}
use Rattle.spdx_list.specs.declared.error.File.{File}
use Rattle.spdx_list.specs.declared.error.File.TheVariants as file
use Rattle.spdx_list.specs.declared.error.Table.{Table}
use Rattle.spdx_list.specs.declared.error.Table.TheVariants as table
use Rattle.spdx_list.specs.declared.error.Member.{Member}
use Rattle.spdx_list.specs.declared.error.Member.TheVariants as member
use Rattle.spdx_list.specs.declared.error.ListFault.{ListFault}
use Rattle.spdx_list.specs.declared.error.ListFault.TheVariants as fault
use Rattle.spdx_catalogue.specs.Faults.{catalogue_fault_text}

-- a file is named by what it holds
abbrev pub file_text : File → List ℕ
file_text file.Licenses = codes "the licences"
file_text file.Exceptions = codes "the exceptions"
file_text file.Extras = codes "the extras"

-- a table is named by its key
abbrev pub table_text : Table → List ℕ
table_text table.Licenses = codes "licenses"
table_text table.Exceptions = codes "exceptions"
table_text table.Copyleft = codes "copyleft"
table_text table.Imprecise = codes "imprecise"
table_text table.Instead = codes "instead"

-- a member is named by its key
abbrev pub member_text : Member → List ℕ
member_text member.Itself = codes "text"
member_text member.LicenseId = codes "licenseId"
member_text member.Name = codes "name"
member_text member.FsfLibre = codes "isFsfLibre"
member_text member.OsiApproved = codes "isOsiApproved"
member_text member.Deprecated = codes "isDeprecatedLicenseId"
member_text member.ExceptionId = codes "licenseExceptionId"
member_text member.Prefix = codes "prefix"
member_text member.Write = codes "write"

-- what is printed of a fault: where, and what is wrong there
abbrev pub list_fault_text : ListFault → List ℕ
list_fault_text (fault.NotJson f) = file_text f ++ codes ": not JSON"
list_fault_text fault.NoVersion = codes "bad or missing licenseListVersion"
list_fault_text (fault.NoTable t) = codes "bad or missing " ++ table_text t
list_fault_text (fault.Item t index m) =
    table_text t ++ (codes " item " ++
    (decimal index ++ (codes ": bad or missing " ++ member_text m)))
list_fault_text (fault.Catalogue e) = catalogue_fault_text e
