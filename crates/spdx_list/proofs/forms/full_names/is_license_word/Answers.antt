use Rattle.std.proofs.Common.{rules, tests, ◌∙◌, string_bytes}
use Rattle.std.specs.Str.{str_eq_ignore_ascii_case}
use Rattle.std.proofs.lemmas.Iterator.{YieldsList-from_slice}
use Rattle.std.proofs.lemmas.Iterator.Search.{any_from_yields_List}
use Rattle.spdx_requirement.specs.Rows.{LicenseRow, row_of}
use Rattle.spdx_requirement.specs.declared.row.License.{License}
use Rattle.spdx_list.proofs.Fitted.{any_map}
use Rattle.spdx_list.proofs.forms.full_names.is_license_word.Goals as goal

pub returns : goal.returns
returns c =
    any_from_yields_List (λ (r : License). str_eq_ignore_ascii_case (string_bytes r.name) c.args.word.now) _ _ c.any.result c.any.ensures.ran
    (YieldsList-from_slice c.args.licenses.now cc) (λ x b q k. search (rules, tests))
    ∙ any_map (λ (r : LicenseRow). str_eq_ignore_ascii_case r.name c.args.word.now) row_of c.args.licenses.now
