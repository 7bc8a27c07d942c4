use Rattle.std.proofs.Common.{sym, subst}
use Rattle.spdx_requirement.specs.Items.{Requirement}
use Rattle.spdx_licensee.specs.LicenseeText.{Names, NamesNone}
use Rattle.spdx_licensee.specs.Replacements.{as_requirement}
use Rattle.spdx_licensee.proofs.Unique.{named_successor, of_refused}
use Rattle.spdx_licensee.proofs.replacements.successor_in.Goals as goal

pub returns-in-Ok : goal.returns-in-Ok
returns-in-Ok c =
    named_successor c.args.catalogue.now c.args.text.now _ _ (subst (λ (r : Requirement). Names c.args.catalogue.now c.args.text.now r) (sym c.into_req.ensures) c.in-Ok.ensures.ok) c.successor_of.ensures

pub returns-in-Err-Refused : goal.returns-in-Err-Refused
returns-in-Err-Refused c = λ s h.
    of_refused (λ e. NamesNone c.args.catalogue.now c.args.text.now) c.in-Err-Refused.field-0 _ c.in-Err-Refused.field-0-is c.in-Err-Refused.ensures.none (as_requirement s) h
