use Rattle.std.proofs.Common.{rules, ◌≡◌, List, option_map, find, string_bytes, ap, sym, ◌∙◌}
use Rattle.std.specs.Option.{option_copied}
use Rattle.std.specs.Prelude.{bytes_eq}
use Rattle.spdx_requirement.specs.Rows.{LicenseRow, row_of, license_name}
use Rattle.spdx_requirement.specs.declared.row.License.{License}
use Rattle.spdx_catalogue.proofs.Mapped.{find_map}
use Rattle.spdx_catalogue.proofs.Relevant.{named_relevant}
use Rattle.spdx_catalogue.proofs.index.license_named.Goals as goal

pub first-requires-clause-relevant : goal.first-requires-clause-relevant
first-requires-clause-relevant c = named_relevant (λ (r : License). string_bytes r.name) c.args.name

pub returns : goal.returns
returns c =
    let rows : List License = c.args.rows.now in
    let own : option_copied c.first.result ≡ find (λ (r : License). bytes_eq (string_bytes r.name) c.args.name.now) rows = search rules in
    (ap (option_map row_of) own ∙ sym (find_map (λ (r : LicenseRow). bytes_eq (license_name r) c.args.name.now) row_of rows))
