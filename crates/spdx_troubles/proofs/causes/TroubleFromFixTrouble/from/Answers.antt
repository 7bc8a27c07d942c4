use Rattle.std.proofs.Common.{subst, sym}
use Rattle.fix_program.specs.declared.trouble.FixTrouble.{FixTrouble}
use Rattle.spdx_troubles.specs.Causes.{IsFixTrouble, is_manifest}
use Rattle.spdx_troubles.specs.declared.trouble.Trouble.TheVariants as trouble
use Rattle.spdx_troubles.proofs.causes.TroubleFromFixTrouble.from.Goals as goal

pub returns-in-Manifest : goal.returns-in-Manifest
returns-in-Manifest c =
    let told = trouble.Manifest c.in-Manifest.path c.reason_text.result c.in-Manifest.fault.line in
    subst (λ (t : FixTrouble). IsFixTrouble t told) (sym c.in-Manifest.is) (is_manifest c.reason_text.ensures)
