use Rattle.std.proofs.Common.{refl}
use Rattle.spdx_policy.proofs.Entries.{none_at_all, of_none}
use Rattle.spdx_policy.proofs.reading.old_or_fault.Goals as goal

pub returns-clause-err : goal.returns-clause-err
returns-clause-err c =
    (refl, c.in_ok-copy.ensures.ok, c.requires.fault, none_at_all c.args.catalogue.now c.args.text.now c.requires.none (of_none _ c.in_ok-req.field-0 c.in_default.is c.in_ok-req.ensures.none))
