use Rattle.std.proofs.Common.{◌≡◌, IfOk, Some, None, ap, subst}
use Rattle.std.specs.Prelude.{string_bytes}
use Rattle.spdx_lexer.specs.Code.{span_of}
use Rattle.spdx_lexer.specs.Faults.{fault_of}
use Rattle.spdx_check.specs.Checking.{replacements_in}
use Rattle.spdx_check.specs.Finding.{aid_by}
use Rattle.spdx_check.specs.Refusals.{aid_in}
use Rattle.spdx_check.proofs.Fixes.{fix_only}
use Rattle.spdx_check.proofs.refusals.remedy_of.Goals as goal

pub returns-in-Some : goal.returns-in-Some
returns-in-Some c =
    let error = c.args.error.now in
    let answer = rw c.in-Some.is at c.in_ok-mended.ensures in
    ap (λ fix. aid_by c.args.check.now.catalogue.now (replacements_in c.args.check.now) error.original.now (fault_of error.reason) (span_of error.span) fix)
    (fix_only c.args.check.now.catalogue.now error.original.now (Some (string_bytes c.in-Some.mended)) answer)

pub returns-in-None : goal.returns-in-None
returns-in-None c =
    let error = c.args.error.now in
    let answer = rw c.in-None.is at c.in_ok-mended.ensures in
    subst (λ fix. IfOk c.names_for.result (λ remedy.
    aid_in remedy ≡ aid_by c.args.check.now.catalogue.now (replacements_in c.args.check.now) error.original.now (fault_of error.reason) (span_of error.span) fix))
    (fix_only c.args.check.now.catalogue.now error.original.now None answer) c.names_for.ensures
