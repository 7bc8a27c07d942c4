use Rattle.std.proofs.Common.{take, drop, sym}
use Rattle.std.proofs.lemmas.List.{take-append-drop}
use Rattle.line_engine.proofs.Known.{Appends-Keeps, OnErr-always, in_bytes, more_written}
use Rattle.line_engine.proofs.lines.write_all.Goals as goal

pub returns-in_err-at-clause-begun : goal.returns-in_err-at-clause-begun
returns-in_err-at-clause-begun g c = OnErr-always c.from_residual.result _ (record {
  begun = take c.loop-at.at c.args.bytes.now;
  others = drop c.loop-at.at c.args.bytes.now;
  whole = sym (take-append-drop c.loop-at.at c.args.bytes.now);
  appended = Appends-Keeps _ _ _ (take c.loop-at.at c.args.bytes.now) c.loop-at.invariant.written c.in_err-at.ensures.bytes;
})

pub loop-at-preserved : goal.loop-at-preserved
loop-at-preserved g c = record {
  in_range = in_bytes c.args.bytes.now c.loop-at.at c.in_ok-at.field-0 c.loop-at.invariant.in_range c.in_ok-at.ensures.bound;
  written = more_written _ _ _ c.args.bytes.now c.loop-at.at c.in_ok-at.field-0 c.loop-at.invariant.written c.in_ok-at.ensures.bytes;
}
