use Rattle.std.proofs.Common.{List, map, ap, ◌∙◌}
use Rattle.spdx_requirement.specs.Rows.{row_of}
use Rattle.spdx_requirement.specs.declared.row.License.{License}
use Rattle.spdx_catalogue.specs.LookUps.{listed}
use Rattle.spdx_catalogue.proofs.catalogue.Catalogue.license_named.Goals as goal

pub returns : goal.returns
returns c = rw (← c.self.view_is) (c.license_named.ensures ∙ ap (λ (xs : List License). listed (map row_of xs) c.args.name.now) c.deref.ensures.value)
