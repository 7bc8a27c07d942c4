use Rattle.std.proofs.Common.{rules}
use Rattle.spdx_lexer.specs.Code.{span_of}
use Rattle.spdx_lexer.specs.Faults.{fault_of}
use Rattle.spdx_check.specs.Checking.{replacements_in}
use Rattle.spdx_check.proofs.Writing.{refused_so}
use Rattle.spdx_check.proofs.refusals.refused.Goals as goal

pub returns : goal.returns
returns c =
    let error = c.args.error.now in
    refused_so c.args.check.now.catalogue.now (replacements_in c.args.check.now) error.original.now _ (fault_of error.reason) (span_of error.span) _ _ (search rules) (search rules) c.in_ok-remedy_of.ensures
