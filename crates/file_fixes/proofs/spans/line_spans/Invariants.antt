use Rattle.std.proofs.Common.{◌≡◌, ◌+◌, ◌<◌, ◌≤◌, ◌++◌, length}
use Rattle.line_engine.specs.Lines.{lines_of}
use Rattle.file_fixes.specs.Spans.{spans_from, line_spans}
use Rattle.file_fixes.proofs.spans.line_spans.Given as goal

abbrev pub invariant-loop-rest : goal.invariant-loop-rest
invariant-loop-rest l = record {
  done : line_spans l.bytes ≡ l.spans.items ++ spans_from l.offset (lines_of l.rest);
  within : 0 < length l.rest → l.offset + length l.rest ≤ length l.bytes;
}

abbrev pub decreases-loop-rest : goal.decreases-loop-rest
decreases-loop-rest l = length l.rest
