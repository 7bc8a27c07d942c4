-- Packages, items and faults, as texts and numbers.
use Rattle.std.specs.Prelude.{ℕ, Bool, List, map, Option, option_map, string_bytes}
use Rattle.serde_json.specs.Data.{Data}
use Rattle.serde_json.specs.View.{view}
use Rattle.package_items.specs.declared.package.License.{License}
use Rattle.package_items.specs.declared.package.License.TheVariants as license
use Rattle.package_items.specs.declared.package.Spot.{Spot}
use Rattle.package_items.specs.declared.package.Spot.TheVariants as spot
use Rattle.package_items.specs.declared.package.Package.{Package}
use Rattle.package_items.specs.declared.item.Item.{Item}
use Rattle.package_items.specs.declared.error.Found.{Found}
use Rattle.package_items.specs.declared.error.SourceFault.{SourceFault}
use Rattle.package_items.specs.declared.error.SourceFault.TheVariants as fault
use Rattle.package_items.specs.declared.error.SourceError.{SourceError}
use Rattle.package_items.specs.declared.error.SourceError.TheVariants as error

-- what a package says of its license
pub data LicenseRow : Type 0 where
  unstated : LicenseRow
  stated : List ℕ → LicenseRow

-- where a package stands
pub data SpotRow : Type 0 where
  on_line : ℕ → SpotRow
  in_record : ℕ → SpotRow
  at_pointer : List ℕ → SpotRow

pub record PackageRow : Type 0 where
  pub name : List ℕ
  pub version : Option (List ℕ)
  pub license : LicenseRow
  pub folder : Option (List ℕ)
  pub license_files : List (List ℕ)
  pub evidence : ℕ
  pub is_own : Bool
  pub spot : SpotRow

-- a value in a document, at its place
pub record ItemRow : Type 0 where
  pub key : List ℕ
  pub at : List ℕ
  pub holds : Data
  pub is_own : Bool

-- what is wrong, and where
pub data Fault : Type 0 where
  not_json : Fault
  not_pointer : List ℕ → Fault
  not_list : List ℕ → Found → Fault
  not_object : List ℕ → Found → Fault
  not_text : List ℕ → Found → Fault
  deeper : List ℕ → Fault
  not_utf8 : ℕ → Fault
  line_not_json : ℕ → Fault
  line_not_object : ℕ → Found → Fault
  line_not_text : ℕ → List ℕ → Found → Fault
  no_field : List ℕ → Fault
  open_quote : Fault
  no_name_column : Fault
  no_license_column : Fault
  record_not_utf8 : ℕ → Fault
  not_columns : ℕ → ℕ → Fault
  too_few_columns : ℕ → Fault
  no_name : ℕ → Fault
  no_form : Fault

-- what values of the program stand for; of bytes that are no JSON the place is not told
abbrev pub license_of : License → LicenseRow
license_of license.Unstated = unstated
license_of (license.Stated text) = stated (string_bytes text)

abbrev pub spot_of : Spot → SpotRow
spot_of (spot.Line number) = on_line number
spot_of (spot.Record number) = in_record number
spot_of (spot.Pointer at) = at_pointer (string_bytes at)

abbrev pub row_of : Package → PackageRow
row_of p = record {
  name = string_bytes p.name;
  version = option_map string_bytes p.version;
  license = license_of p.license;
  folder = option_map string_bytes p.folder;
  license_files = map string_bytes p.license_files.items;
  evidence = p.evidence;
  is_own = p.is_own;
  spot = spot_of p.spot;
}

abbrev pub item_row : Item → ItemRow
item_row i =
    record { key = i.key.now; at = string_bytes i.at; holds = view i.value.now; is_own = i.is_own }

abbrev pub fault_of : SourceFault → Fault
fault_of (fault.NotJson line column) = not_json
fault_of (fault.NotPointer text) = not_pointer (string_bytes text)
fault_of (fault.NotList at found) = not_list (string_bytes at) found
fault_of (fault.NotObject at found) = not_object (string_bytes at) found
fault_of (fault.NotText at found) = not_text (string_bytes at) found
fault_of (fault.TooDeep at) = deeper (string_bytes at)
fault_of (fault.NotUtf8 line) = not_utf8 line
fault_of (fault.LineNotJson line) = line_not_json line
fault_of (fault.LineNotObject line found) = line_not_object line found
fault_of (fault.LineNotText line at found) = line_not_text line (string_bytes at) found
fault_of (fault.NoField name) = no_field (string_bytes name)
fault_of fault.OpenQuote = open_quote
fault_of fault.NoNameColumn = no_name_column
fault_of fault.NoLicenseColumn = no_license_column
fault_of (fault.RecordNotUtf8 number) = record_not_utf8 number
fault_of (fault.NotColumns number count) = not_columns number count
fault_of (fault.TooFewColumns number) = too_few_columns number
fault_of (fault.NoName number) = no_name number
fault_of fault.NoForm = no_form

-- P of the fault that is told; of want of memory nothing
abbrev pub Says : (Fault → Type 0) → SourceError → Type 0
Says P (error.Refused f) = P (fault_of f)
Says P error.NoMemory = Unit {0}
