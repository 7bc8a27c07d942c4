use Rattle.std.proofs.Common.{◌<◌, ℕ, List, length, subst, rules}
use Rattle.std.proofs.lemmas.Result.{on_ok_weaker}
use Rattle.line_engine.specs.Progress.{state, HasPut}
use Rattle.line_engine.proofs.Steps.{last_step}
use Rattle.line_engine.proofs.lines.put_last.Goals as goal

pub returns-else-is_empty-clause-ok : goal.returns-else-is_empty-clause-ok
returns-else-is_empty-clause-ok g c =
    let rule = g.V.Verdicts.rule c.args.verdicts.now in
    let kept = c.args.kept.now in
    let old = state (g.V.Verdicts.HasAnswered c.args.verdicts.now) kept.tally.answers.items kept.tally.summary in
    let new = state (g.V.Verdicts.HasAnswered c.put_line.new.verdicts) c.put_line.new.tally.answers.items c.put_line.new.tally.summary in
    let long : 0 < length kept.line.items = search rules in
    on_ok_weaker c.put_line.result
    (λ put bytes written h. last_step rule bytes written kept.line.items old new long h
    (subst (λ (line : List ℕ). HasPut rule line old new) c.deref.ensures.value put))
    c.put_line.ensures.put
