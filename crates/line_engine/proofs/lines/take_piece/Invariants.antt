use Rattle.std.proofs.Common.{◌≡◌, ℕ, List, ◌++◌, length}
use Rattle.line_engine.specs.Progress.{state, HasKept}
use Rattle.line_engine.proofs.lines.take_piece.Given as goal

abbrev pub invariant-loop-end : goal.invariant-loop-end
invariant-loop-end g l = record {
  rule : g.V.Verdicts.rule l.verdicts ≡ g.V.Verdicts.rule l.initial.verdicts;
  done : (done : List ℕ) × (done ++ l.rest ≡ l.piece) × ((bytes written : List ℕ) →
      HasKept (g.V.Verdicts.rule l.initial.verdicts) bytes written l.initial.kept.line.items (state (g.V.Verdicts.HasAnswered l.initial.verdicts) l.initial.kept.tally.answers.items l.initial.kept.tally.summary) →
      HasKept (g.V.Verdicts.rule l.initial.verdicts) (bytes ++ done) written l.kept.line.items (state (g.V.Verdicts.HasAnswered l.verdicts) l.kept.tally.answers.items l.kept.tally.summary));
}

abbrev pub decreases-loop-end : goal.decreases-loop-end
decreases-loop-end g l = length l.rest
