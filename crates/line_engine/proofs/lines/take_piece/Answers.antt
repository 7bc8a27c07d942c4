use Rattle.std.proofs.Common.{◌++◌, ◌∷◌, [], ◌∙◌}
use Rattle.line_engine.specs.Progress.{state}
use Rattle.line_engine.proofs.Steps.{done_parts, line_step, rest_step}
use Rattle.line_engine.proofs.lines.take_piece.Goals as goal

pub loop-end-preserved : goal.loop-end-preserved
loop-end-preserved g c =
    let (done, parts, kept) = c.loop-end.invariant.done in
    let old = state (g.V.Verdicts.HasAnswered c.loop-end.verdicts) c.loop-end.kept.tally.answers.items c.loop-end.kept.tally.summary in
    let new = state (g.V.Verdicts.HasAnswered c.end_line.new.verdicts) c.end_line.new.kept.tally.answers.items c.end_line.new.kept.tally.summary in
    record {
      rule = c.end_line.ensures.rule ∙ c.loop-end.invariant.rule;
      done = (
        done ++ c.in-Some.end.now ++ 10 ∷ [],
        done_parts done c.in-Some.end.now c.in-Some.behind.now c.loop-end.rest.now c.args.piece.now c.in-Some.ensures.some.0 parts,
        λ bytes written h. line_step (g.V.Verdicts.rule c.args.verdicts.now) (g.V.Verdicts.rule c.loop-end.verdicts) bytes done c.in-Some.end.now written c.loop-end.kept.line.items c.end_line.new.kept.line.items old new c.loop-end.invariant.rule
            c.in-Some.ensures.some.1 c.in_ok-end_line.ensures.emptied c.in_ok-end_line.ensures.put (kept bytes written h),
      );
    }

pub returns-clause-ok : goal.returns-clause-ok
returns-clause-ok g c bytes written h =
    let (done, parts, kept) = c.loop-end.invariant.done in
    let now = state (g.V.Verdicts.HasAnswered c.loop-end.verdicts) c.loop-end.kept.tally.answers.items c.loop-end.kept.tally.summary in
    rw c.in_ok-extend_from_slice.ensures.items
    (rest_step (g.V.Verdicts.rule c.args.verdicts.now) bytes done c.loop-end.rest.now c.args.piece.now written c.loop-end.kept.line.items now (c.in_default.ensures.none search) parts (kept bytes written h))
