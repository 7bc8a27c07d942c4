use Rattle.std.proofs.Common.{◌<◌, length, arith}
use Rattle.spdx_licensee.specs.Replacements.{IsReplacementOf}
use Rattle.spdx_licensee.specs.Shown.{replaced_name, replacement_shown}
use Rattle.spdx_licensee.proofs.Zipped.{zip_more}
use Rattle.spdx_licensee.proofs.replacements.Replacements.of_rows.Goals as goal

pub loop-row-preserved : goal.loop-row-preserved
loop-row-preserved c =
    let lt : c.loop-row.row-index < length c.args.names.now = omega arith in
    zip_more (IsReplacementOf c.args.catalogue.now) replaced_name replacement_shown c.args.names.now c.loop-row.row-index _ c.loop-row.rows.items c.push.new.self.items c.in_ok-replacement_of.field-0
    lt c.in_ok-push.ensures.items c.loop-row.invariant c.in_ok-replacement_of.ensures
