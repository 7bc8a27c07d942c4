use Rattle.std.proofs.Common.{◌++◌, ℕ, List, subst}
use Rattle.finding_forms.specs.Forms.{ending}
use Rattle.line_engine.specs.Progress.{AppendsBeginning}
use Rattle.line_engine.proofs.Known.{AppendsBeginning-none, OnErr-always}
use Rattle.check_program.specs.Runs.{last_lines}
use Rattle.check_program.proofs.Begun.{both_begun}
use Rattle.check_program.proofs.run.put_last.Goals as goal

pub returns-in_err-put_ending-clause-begun : goal.returns-in_err-put_ending-clause-begun
returns-in_err-put_ending-clause-begun g c =
    OnErr-always c.from_residual.result _
    (AppendsBeginning-none (g.O.Sink.told c.args.output.now).bytes (ending c.args.format ++ last_lines c.args.summary c.args.format c.args.sums.now))

pub returns-in_err-put_summary-clause-begun : goal.returns-in_err-put_summary-clause-begun
returns-in_err-put_summary-clause-begun g c =
    OnErr-always c.from_residual-in_err-put_summary.result _
    (AppendsBeginning-none (g.O.Sink.told c.args.output.now).bytes (ending c.args.format ++ last_lines c.args.summary c.args.format c.args.sums.now))

pub returns-in_err-write_all-clause-begun : goal.returns-in_err-write_all-clause-begun
returns-in_err-write_all-clause-begun g c =
    let out = g.O.Sink.told c.args.output.now in
    let out' = g.O.Sink.told c.write_all.new.output in
    OnErr-always c.from_residual-in_err-write_all.result _
    (both_begun out out' c.put_summary.new.text.items c.put_ending.new.text.items c.new-text.result.items (ending c.args.format) (last_lines c.args.summary c.args.format c.args.sums.now)
    c.in_ok-put_summary.ensures c.in_ok-put_ending.ensures.ok c.new-text.ensures.items
    (subst (λ (bs : List ℕ). AppendsBeginning out.bytes out'.bytes bs) c.deref.ensures.value c.in_err-write_all.ensures.begun))
