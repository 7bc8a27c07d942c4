use Rattle.std.proofs.Common.{◌∙◌, sym, ap}
use Rattle.std.specs.List.{list_any}
use Rattle.spdx_requirement.specs.Flags.{is_copyleft}
use Rattle.spdx_requirement.specs.Rows.{LicenseRow, row_of}
use Rattle.spdx_policy.proofs.Placed.{any_map}
use Rattle.spdx_policy.proofs.reading.from_toml.knows_copyleft.Goals as goal

pub returns : goal.returns
returns c =
    c.is_copyleft_among.ensures
    ∙ sym (any_map (λ (r : LicenseRow). is_copyleft r.flags) row_of c.licenses.result.now)
    ∙ ap (list_any (λ (r : LicenseRow). is_copyleft r.flags)) c.licenses.ensures
