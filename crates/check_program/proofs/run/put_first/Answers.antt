use Rattle.std.proofs.Common.{ℕ, List, subst}
use Rattle.finding_forms.specs.Forms.{beginning}
use Rattle.line_engine.specs.Progress.{AppendsBeginning}
use Rattle.line_engine.proofs.Known.{AppendsBeginning-none, OnErr-always}
use Rattle.check_program.proofs.Begun.{put_begun}
use Rattle.check_program.proofs.run.put_first.Goals as goal

pub returns-in_err-put_beginning-clause-begun : goal.returns-in_err-put_beginning-clause-begun
returns-in_err-put_beginning-clause-begun g c =
    OnErr-always c.from_residual.result _ (AppendsBeginning-none (g.O.Sink.told c.args.output.now).bytes (beginning c.args.format c.args.version.now))

pub returns-in_err-write_all-clause-begun : goal.returns-in_err-write_all-clause-begun
returns-in_err-write_all-clause-begun g c =
    let out = g.O.Sink.told c.args.output.now in
    let out' = g.O.Sink.told c.write_all.new.output in
    OnErr-always c.from_residual-in_err-write_all.result _
    (put_begun out out' c.put_beginning.new.text.items c.new-text.result.items (beginning c.args.format c.args.version.now) c.in_ok-put_beginning.ensures.ok c.new-text.ensures.items
    (subst (λ (bs : List ℕ). AppendsBeginning out.bytes out'.bytes bs) c.deref.ensures.value c.in_err-write_all.ensures.begun))
