use Rattle.std.proofs.Common.{◌≡◌, ◌<◌, ◌∙◌, refl, length, take, arith, rules}
use Rattle.line_engine.specs.Device.{devices}
use Rattle.line_engine.specs.Progress.{state}
use Rattle.line_engine.proofs.Known.{Appends-Keeps, AppendsBeginning-all, Consumes-Keeps, OnErr-always}
use Rattle.line_engine.proofs.Steps.{piece_fault, piece_begun, piece_step, read_end, end_begun, whole_run, known_behind}
use Rattle.line_engine.proofs.lines.run_in.Goals as goal

pub returns-in_err-take_piece-in-Ok-clause-runs : goal.returns-in_err-take_piece-in-Ok-clause-runs
returns-in_err-take_piece-in-Ok-clause-runs g c =
    let (bytes, consumed, written, kept) = c.loop-kept.invariant.bytes in
    let before = state (g.V.Verdicts.HasAnswered c.loop-kept.verdicts) c.loop-kept.kept.tally.answers.items c.loop-kept.kept.tally.summary in
    let d = devices (g.I.Source.told c.args.input.now) (g.I.Source.told c.read.new.self) (g.O.Sink.told c.args.output.now) (g.O.Sink.told c.loop-kept.output) in
    record {
      ok = search rules;
      known = search rules;
      sound = search rules;
      begun = OnErr-always c.from_residual.result _
          (piece_fault (g.V.Verdicts.rule c.args.verdicts.now) (g.V.Verdicts.rule c.loop-kept.verdicts) d _ bytes written c.loop-kept.kept.line.items before kept c.loop-kept.invariant.rule
          _ (take c.in-Ok.count c.read.new.buffer) consumed c.in-Ok.ensures.bytes.0 refl);
      read_all = search rules;
      read = search rules;
      write = search rules;
    }

pub loop-kept-preserved : goal.loop-kept-preserved
loop-kept-preserved g c =
    let (bytes, consumed, written, kept) = c.loop-kept.invariant.bytes in
    let before = state (g.V.Verdicts.HasAnswered c.loop-kept.verdicts) c.loop-kept.kept.tally.answers.items c.loop-kept.kept.tally.summary in
    let d = devices (g.I.Source.told c.args.input.now) (g.I.Source.told c.read.new.self) (g.O.Sink.told c.args.output.now) (g.O.Sink.told c.write_out.new.output) in
    let after = state (g.V.Verdicts.HasAnswered c.take_piece.new.verdicts) c.take_piece.new.kept.tally.answers.items c.take_piece.new.kept.tally.summary in
    record {
      rule = c.take_piece.ensures.rule ∙ c.loop-kept.invariant.rule;
      same = λ may. c.loop-kept.invariant.same (c.read.ensures.same may);
      bytes = piece_step (g.V.Verdicts.rule c.args.verdicts.now) (g.V.Verdicts.rule c.loop-kept.verdicts) d _ bytes written c.loop-kept.kept.line.items before kept c.loop-kept.invariant.rule
          _ (take c.in-Ok.count c.read.new.buffer) consumed c.in-Ok.ensures.bytes.0 c.take_piece.new.kept.line.items after c.in_ok-take_piece-in-Ok.ensures.ok
          c.write_out.new.answers.items c.in_ok-write_out-in-Ok.ensures.emptied c.in_ok-write_out-in-Ok.ensures.all;
    }

pub returns-in_err-write_out-in-Ok-clause-runs : goal.returns-in_err-write_out-in-Ok-clause-runs
returns-in_err-write_out-in-Ok-clause-runs g c =
    let (bytes, consumed, written, kept) = c.loop-kept.invariant.bytes in
    let before = state (g.V.Verdicts.HasAnswered c.loop-kept.verdicts) c.loop-kept.kept.tally.answers.items c.loop-kept.kept.tally.summary in
    let d = devices (g.I.Source.told c.args.input.now) (g.I.Source.told c.read.new.self) (g.O.Sink.told c.args.output.now) (g.O.Sink.told c.write_out.new.output) in
    let after = state (g.V.Verdicts.HasAnswered c.take_piece.new.verdicts) c.take_piece.new.kept.tally.answers.items c.take_piece.new.kept.tally.summary in
    record {
      ok = search rules;
      known = search rules;
      sound = search rules;
      begun = OnErr-always c.from_residual-in_err-write_out-in-Ok.result _
          (piece_begun (g.V.Verdicts.rule c.args.verdicts.now) (g.V.Verdicts.rule c.loop-kept.verdicts) d _ bytes written c.loop-kept.kept.line.items before kept c.loop-kept.invariant.rule
          _ (take c.in-Ok.count c.read.new.buffer) consumed c.in-Ok.ensures.bytes.0 c.take_piece.new.kept.line.items after c.in_ok-take_piece-in-Ok.ensures.ok c.in_err-write_out-in-Ok.ensures.begun);
      read_all = search rules;
      read = search rules;
      write = search rules;
    }

pub returns-in_err-write_out-clause-runs : goal.returns-in_err-write_out-clause-runs
returns-in_err-write_out-clause-runs g c =
    let (bytes, consumed, written, kept) = c.loop-kept.invariant.bytes in
    let before = state (g.V.Verdicts.HasAnswered c.loop-kept.verdicts) c.loop-kept.kept.tally.answers.items c.loop-kept.kept.tally.summary in
    let d = devices (g.I.Source.told c.args.input.now) (g.I.Source.told c.read.new.self) (g.O.Sink.told c.args.output.now) (g.O.Sink.told c.write_out-2.new.output) in
    let none : c.in-Ok-eq0.field-0 ≡ 0 = omega arith in
    let room : 0 < length c.read.new.buffer = omega arith in
    let read = read_end _ _ _ bytes c.in-Ok-eq0.field-0 c.read.new.buffer none consumed c.in-Ok-eq0.ensures.bytes.0 in
    let end = c.in-Ok-eq0.ensures.bytes.1 none room in
    record {
      ok = search rules;
      known = search rules;
      sound = search rules;
      begun = OnErr-always c.from_residual-in_err-write_out.result _
          (end_begun (g.V.Verdicts.rule c.args.verdicts.now) (g.V.Verdicts.rule c.loop-kept.verdicts) d _ bytes written c.loop-kept.kept.line.items before kept c.loop-kept.invariant.rule
          read end c.put_end.new.kept.tally.answers.items c.put_end.new.kept.tally.summary c.in_ok-put_end.ensures.ok c.in_err-write_out.ensures.begun);
      read_all = search rules;
      read = search rules;
      write = search rules;
    }

pub returns-in-Ok-flush-clause-runs : goal.returns-in-Ok-flush-clause-runs
returns-in-Ok-flush-clause-runs g c =
    let (bytes, consumed, written, kept) = c.loop-kept.invariant.bytes in
    let before = state (g.V.Verdicts.HasAnswered c.loop-kept.verdicts) c.loop-kept.kept.tally.answers.items c.loop-kept.kept.tally.summary in
    let d = devices (g.I.Source.told c.args.input.now) (g.I.Source.told c.read.new.self) (g.O.Sink.told c.args.output.now) (g.O.Sink.told c.flush.new.self) in
    let none : c.in-Ok-eq0.field-0 ≡ 0 = omega arith in
    let room : 0 < length c.read.new.buffer = omega arith in
    let read = read_end _ _ _ bytes c.in-Ok-eq0.field-0 c.read.new.buffer none consumed c.in-Ok-eq0.ensures.bytes.0 in
    let end = c.in-Ok-eq0.ensures.bytes.1 none room in
    let run =
    whole_run (g.V.Verdicts.rule c.args.verdicts.now) (g.V.Verdicts.rule c.loop-kept.verdicts) d _ bytes written c.loop-kept.kept.line.items before kept c.loop-kept.invariant.rule
    read end c.put_end.new.kept.tally.answers.items c.put_end.new.kept.tally.summary c.in_ok-put_end.ensures.ok _ c.in_ok-write_out.ensures.all c.flush.ensures.bytes in
    record {
      ok = run;
      known = search rules;
      sound = search rules;
      begun = search rules;
      read_all = search rules;
      read = search rules;
      write = search rules;
    }

pub returns-in-Ok-flush-clause-closed : goal.returns-in-Ok-flush-clause-closed
returns-in-Ok-flush-clause-closed g c =
    let (bytes, consumed, written, kept) = c.loop-kept.invariant.bytes in
    let before = state (g.V.Verdicts.HasAnswered c.loop-kept.verdicts) c.loop-kept.kept.tally.answers.items c.loop-kept.kept.tally.summary in
    let d = devices (g.I.Source.told c.args.input.now) (g.I.Source.told c.read.new.self) (g.O.Sink.told c.args.output.now) (g.O.Sink.told c.flush.new.self) in
    let none : c.in-Ok-eq0.field-0 ≡ 0 = omega arith in
    let room : 0 < length c.read.new.buffer = omega arith in
    let read = read_end _ _ _ bytes c.in-Ok-eq0.field-0 c.read.new.buffer none consumed c.in-Ok-eq0.ensures.bytes.0 in
    let end = c.in-Ok-eq0.ensures.bytes.1 none room in
    known_behind (g.V.Verdicts.rule c.args.verdicts.now) (g.V.Verdicts.rule c.loop-kept.verdicts) d _ bytes written c.loop-kept.kept.line.items before kept c.loop-kept.invariant.rule
    read end c.put_end.new.kept.tally.answers.items c.put_end.new.kept.tally.summary c.in_ok-put_end.ensures.ok
    (g.V.Verdicts.HasClosed c.put_end.new.verdicts) c.in_ok-put_end.ensures.closed _ c.in_ok-write_out.ensures.all c.flush.ensures.bytes

pub returns-clause-runs : goal.returns-clause-runs
returns-clause-runs g c =
    let (bytes, consumed, written, kept) = c.loop-kept.invariant.bytes in
    let before = state (g.V.Verdicts.HasAnswered c.loop-kept.verdicts) c.loop-kept.kept.tally.answers.items c.loop-kept.kept.tally.summary in
    let d = devices (g.I.Source.told c.args.input.now) (g.I.Source.told c.read.new.self) (g.O.Sink.told c.args.output.now) (g.O.Sink.told c.flush.new.self) in
    let none : c.in-Ok-eq0.field-0 ≡ 0 = omega arith in
    let room : 0 < length c.read.new.buffer = omega arith in
    let read = read_end _ _ _ bytes c.in-Ok-eq0.field-0 c.read.new.buffer none consumed c.in-Ok-eq0.ensures.bytes.0 in
    let end = c.in-Ok-eq0.ensures.bytes.1 none room in
    record {
      ok = search rules;
      known = search rules;
      sound = search rules;
      begun = end_begun (g.V.Verdicts.rule c.args.verdicts.now) (g.V.Verdicts.rule c.loop-kept.verdicts) d _ bytes written c.loop-kept.kept.line.items before kept c.loop-kept.invariant.rule
          read end c.put_end.new.kept.tally.answers.items c.put_end.new.kept.tally.summary c.in_ok-put_end.ensures.ok
          (AppendsBeginning-all _ _ _ (Appends-Keeps _ _ _ _ c.in_ok-write_out.ensures.all c.flush.ensures.bytes));
      read_all = search rules;
      read = search rules;
      write = search rules;
    }

pub returns-in-Err-clause-broken : goal.returns-in-Err-clause-broken
returns-in-Err-clause-broken g c =
    let (bytes, consumed, written, kept) = c.loop-kept.invariant.bytes in
    λ _. record {
      lines = record { bytes = bytes; read = Consumes-Keeps _ _ _ bytes consumed c.in-Err.ensures.bytes; written = written };
      known = kept.put.answered;
    }
