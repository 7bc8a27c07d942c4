use Rattle.std.proofs.Common.{◌≡◌, ℕ, List}
use Rattle.std.specs.Io.KnownBytes.{Appends, Consumes}
use Rattle.line_engine.specs.Lines.{cut}
use Rattle.line_engine.specs.Output.{text_of}
use Rattle.line_engine.specs.Progress.{state, HasKept}
use Rattle.line_engine.proofs.lines.run_in.Given as goal

abbrev pub invariant-loop-kept : goal.invariant-loop-kept
invariant-loop-kept g l = record {
  rule : g.V.Verdicts.rule l.verdicts ≡ g.V.Verdicts.rule l.initial.verdicts;
  same : g.I.Source.MayFail l.input → g.I.Source.MayFail l.initial.input;
  bytes : (bytes : List ℕ) × Consumes (g.I.Source.told l.initial.input).bytes (g.I.Source.told l.input).bytes bytes
      × Appends (g.O.Sink.told l.initial.output).bytes (g.O.Sink.told l.output).bytes (text_of (g.V.Verdicts.rule l.initial.verdicts) (cut bytes).whole)
      × HasKept (g.V.Verdicts.rule l.initial.verdicts) bytes (text_of (g.V.Verdicts.rule l.initial.verdicts) (cut bytes).whole) l.kept.line.items (state (g.V.Verdicts.HasAnswered l.verdicts) l.kept.tally.answers.items l.kept.tally.summary);
}

abbrev pub decreases-loop-kept : goal.decreases-loop-kept
decreases-loop-kept g l = g.I.Source.left l.input
