use Rattle.std.proofs.Common.{rules, tests, ◌∙◌}
use Rattle.std.proofs.lemmas.Iterator.{YieldsList-from_slice}
use Rattle.std.proofs.lemmas.Iterator.Search.{any_from_yields_List}
use Rattle.spdx_requirement.specs.Rows.{row_of}
use Rattle.spdx_requirement.specs.declared.row.License.{License}
use Rattle.spdx_list.specs.FullNames.{fits_other}
use Rattle.spdx_list.proofs.Fitted.{any_map}
use Rattle.spdx_list.proofs.forms.full_names.fits_another.Goals as goal

pub returns : goal.returns
returns c =
    any_from_yields_List (λ (o : License). fits_other (row_of c.args.row.now) (row_of o)) _ _ c.any.result c.any.ensures.ran
    (YieldsList-from_slice c.args.licenses.now cc) (λ x b q k. search (rules, tests))
    ∙ any_map (fits_other (row_of c.args.row.now)) row_of c.args.licenses.now
