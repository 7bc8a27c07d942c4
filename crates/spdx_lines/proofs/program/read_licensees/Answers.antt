use Rattle.spdx_lexer.specs.Code.{span_of}
use Rattle.spdx_lexer.specs.Faults.{fault_of}
use Rattle.spdx_lines.proofs.Licensees.{read_at, refused_at}
use Rattle.spdx_lines.proofs.program.read_licensees.Goals as goal

pub returns-in-Err-Refused-clause-err : goal.returns-in-Err-Refused-clause-err
returns-in-Err-Refused-clause-err c =
    let h = rw c.in-Err-Refused.field-0-is at c.in-Err-Refused.ensures.err in
    rw c.in-Err-Refused.field-0-is
    (refused_at c.args.catalogue.now c.args.words.now c.loop-place.place _ c.loop-place-test.true _ c.loop-place.licensees.items (fault_of c.in-Err-Refused.error.reason) (span_of c.in-Err-Refused.error.span) c.loop-place.invariant h)

pub loop-place-preserved : goal.loop-place-preserved
loop-place-preserved c =
    read_at c.args.catalogue.now c.args.words.now c.loop-place.place _ c.loop-place-test.true _ c.loop-place.licensees.items c.push.new.self.items c.in-Ok.licensee c.loop-place.invariant c.in-Ok.ensures.ok c.in_ok-push-in-Ok.ensures.items
