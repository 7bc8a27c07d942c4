use Rattle.std.proofs.lemmas.Result.{on_ok_weaker}
use Rattle.line_engine.specs.Lines.{lines_of}
use Rattle.line_engine.specs.Progress.{state}
use Rattle.line_engine.proofs.Steps.{end_step}
use Rattle.line_engine.proofs.lines.put_end.Goals as goal

pub returns-clause-ok : goal.returns-clause-ok
returns-clause-ok g c =
    let all = state (g.V.Verdicts.HasAnswered c.put_last.new.verdicts) c.put_last.new.kept.tally.answers.items c.put_last.new.kept.tally.summary in
    on_ok_weaker c.close.result
    (λ closes bytes written h. end_step (g.V.Verdicts.rule c.args.verdicts.now) (g.V.Verdicts.rule c.put_last.new.verdicts) bytes written c.close.new.text.items all c.put_last.ensures.rule
    (c.in_ok-put_last.ensures.ok bytes written h) closes)
    c.close.ensures.text

pub returns-clause-closed : goal.returns-clause-closed
returns-clause-closed g c =
    on_ok_weaker c.close.result
    (λ closes bytes written h. closes (lines_of bytes) (c.in_ok-put_last.ensures.ok bytes written h).answered)
    c.close.ensures.closed
