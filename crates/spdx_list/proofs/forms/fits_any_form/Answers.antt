use Rattle.std.proofs.Common.{rules, tests, ◌∙◌}
use Rattle.std.proofs.lemmas.Iterator.{YieldsList-from_slice}
use Rattle.std.proofs.lemmas.Iterator.Search.{any_from_yields_List}
use Rattle.spdx_requirement.specs.Rows.{imprecise_of}
use Rattle.spdx_requirement.specs.declared.row.ImpreciseName.{ImpreciseName}
use Rattle.spdx_list.specs.Forms.{fits_form}
use Rattle.spdx_list.proofs.Fitted.{any_map}
use Rattle.spdx_list.proofs.forms.fits_any_form.Goals as goal

pub returns : goal.returns
returns c =
    any_from_yields_List (λ (o : ImpreciseName). fits_form (imprecise_of c.args.form.now) (imprecise_of o)) _ _ c.any.result c.any.ensures.ran
    (YieldsList-from_slice c.args.forms.now cc) (λ x b q k. search (rules, tests))
    ∙ any_map (fits_form (imprecise_of c.args.form.now)) imprecise_of c.args.forms.now
