use Rattle.std.proofs.Common.{rules, ◌≡◌, List, option_map, find, string_bytes, ap, subst, sym, ◌∙◌}
use Rattle.std.specs.Option.{option_copied}
use Rattle.std.specs.Str.{str_eq_ignore_ascii_case}
use Rattle.spdx_requirement.specs.Rows.{LicenseRow, row_of, license_name}
use Rattle.spdx_requirement.specs.declared.row.License.{License}
use Rattle.spdx_catalogue.proofs.Mapped.{find_map}
use Rattle.spdx_catalogue.specs.CatalogueModel.{IsLicenseIndex}
use Rattle.spdx_catalogue.proofs.Relevant.{alike_relevant}
use Rattle.spdx_catalogue.proofs.catalogue.Catalogue.license_caseless.Goals as goal

pub first-requires-clause-index : goal.first-requires-clause-index
first-requires-clause-index c = subst (λ (xs : List License). IsLicenseIndex xs c.self.inside.license_index) (sym c.deref.ensures.value) c.self.invariant.licenses

pub first-requires-clause-relevant : goal.first-requires-clause-relevant
first-requires-clause-relevant c = alike_relevant (λ (r : License). string_bytes r.name) c.args.name

pub returns : goal.returns
returns c =
    let rows : List License = c.self.inside.licenses.items in
    let own : option_copied c.first.result ≡ find (λ (r : License). str_eq_ignore_ascii_case (string_bytes r.name) c.args.name.now) rows = search rules in
    rw (← c.self.view_is) (ap (option_map row_of) own ∙ sym (find_map (λ (r : LicenseRow). str_eq_ignore_ascii_case (license_name r) c.args.name.now) row_of rows))
