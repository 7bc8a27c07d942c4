use Rattle.std.proofs.Common.{◌≡◌, List, map}
use Rattle.spdx_catalogue.specs.CatalogueModel.{rows_shown}
use Rattle.spdx_requirement.specs.Rows.{row_of}
use Rattle.spdx_requirement.specs.declared.row.License.{License}
use Rattle.spdx_catalogue.proofs.Ascending.{licenses_ascend, licenses_keep}
use Rattle.spdx_catalogue.proofs.catalogue.Catalogue.license_joined.Goals as goal

pub joined-requires : goal.joined-requires
joined-requires c =
    let rows : List License = c.self.inside.licenses.items in
    let same : c.deref.result.now ≡ rows = c.deref.ensures.value in
    rw same (licenses_ascend (map row_of rows) (licenses_keep (rows_shown c.self.inside) c.self.invariant.rules))
