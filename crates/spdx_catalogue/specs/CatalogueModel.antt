-- What a catalogue shows, and what always holds of it.
use Rattle.std.specs.Prelude.{List, Option, Some, map, string_bytes, IsTrue, IfSome}
use Rattle.spdx_catalogue.specs.declared.catalogue.Catalogue.TheInside.{Inside}
use Rattle.spdx_catalogue.specs.declared.index.Index.{Index}
use Rattle.spdx_requirement.specs.Rows.{Rows, row_of, exception_of, imprecise_of}
use Rattle.spdx_requirement.specs.declared.row.License.{License}
use Rattle.spdx_requirement.specs.declared.row.Exception.{Exception}
use Rattle.spdx_requirement.specs.declared.row.ImpreciseName.{ImpreciseName}
use Rattle.spdx_catalogue.specs.Index.{IsIndexOf, whole_front}
use Rattle.spdx_catalogue.specs.RowRules.{is_well_formed}
use Prim.Native.Nat.{ℕ}

-- a catalogue shows its rows as bytes and numbers
abbrev pub rows_shown : Inside → Rows
rows_shown a =
    record {
      version = string_bytes a.version;
      licenses = map row_of a.licenses.items;
      exceptions =
          map exception_of a.exceptions.items;
      imprecise = map imprecise_of a.imprecise.items;
    }

-- an index, if there is one, is of those rows
abbrev pub IsIndexed : {A : Type 0} → (A → Option (List ℕ)) → List A → Option Index → Type 0
IsIndexed keyed rows index = IfSome index (λ (i : Index). IsIndexOf keyed rows i.codes.items)

-- an index of licences by their names
abbrev pub IsLicenseIndex : List License → Option Index → Type 0
IsLicenseIndex rows index = IsIndexed (λ (r : License). Some (string_bytes r.name)) rows index

-- no row of a catalogue breaks a rule, and its indices are of its rows
pub record IsWellFormed (a : Inside) : Type 0 where
  pub rules : IsTrue (is_well_formed (rows_shown a))
  pub licenses : IsLicenseIndex a.licenses.items a.license_index
  pub exceptions : IsIndexed (λ (r : Exception). Some (string_bytes r.name)) a.exceptions.items
      a.exception_index
  pub prefixes : IsIndexed (λ (r : ImpreciseName). whole_front (string_bytes r.prefix))
      a.imprecise.items a.prefix_index
