use Rattle.std.proofs.Common.{option_map, ap}
use Rattle.spdx_licensee.specs.Shown.{successor}
use Rattle.spdx_licensee.proofs.Unique.{none_named}
use Rattle.spdx_licensee.proofs.replacements.license_in.Goals as goal

pub returns-in-None : goal.returns-in-None
returns-in-None c = λ old new h.
    none_named c.args.catalogue.now c.args.row.now.write.now _ (ap (option_map successor) c.in-None.is) c.in_ok-new.ensures new h.written
