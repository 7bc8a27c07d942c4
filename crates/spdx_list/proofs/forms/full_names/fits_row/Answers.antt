use Rattle.std.proofs.Common.{rules, tests, ◌∙◌, string_bytes}
use Rattle.std.proofs.lemmas.Iterator.{YieldsList-from_slice}
use Rattle.std.proofs.lemmas.Iterator.Search.{any_from_yields_List}
use Rattle.spdx_requirement.specs.Rows.{ImpreciseRow, imprecise_of}
use Rattle.spdx_requirement.specs.declared.row.ImpreciseName.{ImpreciseName}
use Rattle.spdx_catalogue.specs.Names.{begins_caseless}
use Rattle.spdx_list.proofs.Fitted.{any_map}
use Rattle.spdx_list.proofs.forms.full_names.fits_row.Goals as goal

pub returns : goal.returns
returns c =
    any_from_yields_List (λ (m : ImpreciseName). begins_caseless c.args.text.now (string_bytes m.prefix)) _ _ c.any.result c.any.ensures.ran
    (YieldsList-from_slice c.args.rows.now cc) (λ x b q k. search (rules, tests))
    ∙ any_map (λ (m : ImpreciseRow). begins_caseless c.args.text.now m.prefix) imprecise_of c.args.rows.now
