-- What SPDX's two files and the extras hold.
use Rattle.std.specs.Prelude.{ℕ, ◌+◌, Bool, not, ◌||◌, List, Result, Ok, map, filter, if◌then◌else◌, nat_eq, bytes_eq, codes}
use Rattle.std.specs.List.{starts_with, ends_with, list_any}
use Rattle.serde_json.specs.Data.{Data}
use Rattle.serde_json.specs.Find.{as_str}
use Rattle.spdx_requirement.specs.Rows.{Rows, LicenseRow, ExceptionRow, ImpreciseRow}
use Rattle.spdx_tables.specs.Shape.{text_at}
use Rattle.spdx_tables.specs.TableReading.{value_in}
use Rattle.spdx_list.specs.declared.error.File.TheVariants as file
use Rattle.spdx_list.specs.declared.error.Table.TheVariants as table
use Rattle.spdx_list.specs.declared.error.Member.{Member}
use Rattle.spdx_list.specs.declared.error.Member.TheVariants as member
use Rattle.spdx_list.specs.declared.error.ListFault.{ListFault}
use Rattle.spdx_list.specs.declared.error.ListFault.TheVariants as fault
use Rattle.spdx_list.specs.Items.{need, on_ok, flag_at, rows_at}

-- what SPDX's file states of a licence
pub record EntryRow : Type 0 where
  pub name : List ℕ
  pub full_name : List ℕ
  pub fsf_libre : Bool
  pub osi_approved : Bool
  pub deprecated : Bool

-- what is to be written in place of a name
pub record ReplacementRow : Type 0 where
  pub name : List ℕ
  pub write : List ℕ

-- the names of copyleft licences, imprecise names, and what to write instead of others
pub record ExtraRows : Type 0 where
  pub copyleft : List (List ℕ)
  pub imprecise : List ImpreciseRow
  pub instead : List ReplacementRow

-- ---- flags

-- n where the flag is set, else 0
abbrev pub bit : ℕ → Bool → ℕ
bit n is = if is then n else 0

-- each flag is a bit of its own
abbrev pub flags_of : Bool → Bool → Bool → Bool → Bool → ℕ
flags_of fsf_libre osi_approved deprecated copyleft gnu =
    bit 1 fsf_libre + bit 2 osi_approved + bit 4 deprecated + bit 8 copyleft + bit 16 gnu

-- the names of the GNU family
abbrev pub is_gnu_name : List ℕ → Bool
is_gnu_name name =
    starts_with nat_eq name (codes "GPL-") || (starts_with nat_eq name (codes "LGPL-")
    || (starts_with nat_eq name (codes "AGPL-") || starts_with nat_eq name (codes "GFDL-")))

-- the name is one of these
abbrev pub is_among : List (List ℕ) → List ℕ → Bool
is_among names name = list_any (λ n. bytes_eq n name) names

-- ---- items

-- what an item of the licences states, or the first member that it lacks
abbrev pub entry_row : Data → Result EntryRow Member
entry_row d =
    need member.LicenseId (text_at (codes "licenseId") d) (λ name.
    need member.Name (text_at (codes "name") d) (λ full_name.
    need member.FsfLibre (flag_at (codes "isFsfLibre") d) (λ fsf_libre.
    need member.OsiApproved (flag_at (codes "isOsiApproved") d) (λ osi_approved.
    need member.Deprecated (flag_at (codes "isDeprecatedLicenseId") d) (λ deprecated.
    Ok (record {
      name = name;
      full_name = full_name;
      fsf_libre = fsf_libre;
      osi_approved = osi_approved;
      deprecated = deprecated;
    }))))))

-- the exception of an item, whose place is not known yet
abbrev pub exception_row : Data → Result ExceptionRow Member
exception_row d =
    need member.ExceptionId (text_at (codes "licenseExceptionId") d) (λ name.
    need member.Deprecated (flag_at (codes "isDeprecatedLicenseId") d) (λ deprecated.
    Ok (record { name = name; index = 0; flags = bit 4 deprecated })))

-- an item that is itself a name
abbrev pub copyleft_name : Data → Result (List ℕ) Member
copyleft_name d = need member.Itself (as_str d) Ok

-- the imprecise name of an item
abbrev pub imprecise_row : Data → Result ImpreciseRow Member
imprecise_row d =
    need member.Prefix (text_at (codes "prefix") d) (λ prefix.
    need member.Name (text_at (codes "name") d)
    (λ name. Ok (record { prefix = prefix; name = name })))

-- what an item says to write in place of a name
abbrev pub replacement_row : Data → Result ReplacementRow Member
replacement_row d =
    need member.Name (text_at (codes "name") d) (λ name.
    need member.Write (text_at (codes "write") d)
    (λ write. Ok (record { name = name; write = write })))

-- ---- files

-- the version of the list, and what is stated of each licence
pub record StatedRows : Type 0 where
  pub version : List ℕ
  pub entries : List EntryRow

-- what a value states of a list, the version first
abbrev pub stated_of : Data → Result StatedRows ListFault
stated_of d =
    need fault.NoVersion (text_at (codes "licenseListVersion") d) (λ version.
    on_ok (rows_at entry_row table.Licenses (codes "licenses") d) (λ entries.
    Ok (record { version = version; entries = entries })))

-- the exceptions of a value
abbrev pub exceptions_of : Data → Result (List ExceptionRow) ListFault
exceptions_of d = rows_at exception_row table.Exceptions (codes "exceptions") d

-- the extras of a value, the copyleft names first
abbrev pub extras_of : Data → Result ExtraRows ListFault
extras_of d =
    on_ok (rows_at copyleft_name table.Copyleft (codes "copyleft") d) (λ copyleft.
    on_ok (rows_at imprecise_row table.Imprecise (codes "imprecise") d) (λ imprecise.
    on_ok (rows_at replacement_row table.Instead (codes "instead") d) (λ instead.
    Ok (record { copyleft = copyleft; imprecise = imprecise; instead = instead }))))

-- what the bytes of the licences hold, or their first fault
unfoldable pub stated_in : List ℕ → Result StatedRows ListFault
stated_in bytes = need (fault.NotJson file.Licenses) (value_in bytes) stated_of

-- the same of the exceptions
unfoldable pub exceptions_in : List ℕ → Result (List ExceptionRow) ListFault
exceptions_in bytes = need (fault.NotJson file.Exceptions) (value_in bytes) exceptions_of

-- the same of the extras
unfoldable pub extras_in : List ℕ → Result ExtraRows ListFault
extras_in bytes = need (fault.NotJson file.Extras) (value_in bytes) extras_of

-- ---- the rows that they make

-- a name that SPDX lists beside the name without its `+`
abbrev pub ends_in_plus : List ℕ → Bool
ends_in_plus name = ends_with nat_eq name (codes "+")

-- whether the entry becomes a licence
abbrev pub is_listed : EntryRow → Bool
is_listed e = not (ends_in_plus e.name)

-- the licence of an entry, whose place is not known yet
abbrev pub license_row : Bool → EntryRow → LicenseRow
license_row copyleft e =
    record {
      name = e.name;
      full_name = e.full_name;
      index = 0;
      flags = flags_of e.fsf_libre e.osi_approved e.deprecated copyleft (is_gnu_name e.name);
    }

-- the same, copyleft where its name is one of these
abbrev pub license_of : List (List ℕ) → EntryRow → LicenseRow
license_of copyleft e = license_row (is_among copyleft e.name) e

-- the rows in the order of the files, or the first fault of the first file that has one
unfoldable pub gathered : List ℕ → List ℕ → ExtraRows → Result Rows ListFault
gathered licenses exceptions extras =
    on_ok (stated_in licenses) (λ stated. on_ok (exceptions_in exceptions) (λ excepted.
    Ok (record {
      version = stated.version;
      licenses = map (license_of extras.copyleft) (filter is_listed stated.entries);
      exceptions =
          excepted;
      imprecise = extras.imprecise;
    })))
