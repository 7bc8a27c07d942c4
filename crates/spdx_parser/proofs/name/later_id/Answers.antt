use Rattle.std.proofs.Common.{◌∙◌, ap, string_bytes, refl}
use Rattle.spdx_requirement.specs.Ids.{id_row}
use Rattle.spdx_requirement.specs.Endings.{without_only}
use Rattle.spdx_parser.proofs.Later.{strips, later_is}
use Rattle.spdx_parser.proofs.name.later_id.Goals as goal

pub returns : goal.returns
returns c =
    let named = c.as_str-name.ensures.value ∙ ap (λ l. string_bytes l.name) c.license.ensures in
    let base = ap (λ b. b.now) c.unwrap_or.ensures ∙ strips c.as_str-name.result.now c.strip_suffix.result c.as_str-name.result refl c.strip_suffix.ensures.cases ∙ ap without_only named in
    c.gnu_license_id.ensures ∙ later_is c.args.catalogue.now (id_row c.args.id) c.unwrap_or.result.now c.is_well_formed.ensures c.requires.row c.requires.gnu c.requires.bare base
