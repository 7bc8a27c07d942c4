use Rattle.line_engine.proofs.Known.{OnErr-always}
use Rattle.check_files.specs.Begun.{IsTaggedText}
use Rattle.check_files.specs.Tally.{tally_of}
use Rattle.check_files.proofs.Begun.{no_text, tagged_begun, tagged_whole}
use Rattle.check_files.proofs.file.tags_part.Goals as goal

pub returns-in_err-text-clause-begun : goal.returns-in_err-text-clause-begun
returns-in_err-text-clause-begun g c =
    OnErr-always c.from_residual.result _
    (no_text (g.O.Sink.told c.args.output.now) (IsTaggedText c.args.check.now c.args.below.taken.tags c.args.path.now c.args.bytes.now (tally_of c.args.sums.now)))

pub returns-in_err-count-clause-begun : goal.returns-in_err-count-clause-begun
returns-in_err-count-clause-begun g c =
    OnErr-always c.from_residual-in_err-count.result _
    (tagged_begun (g.O.Sink.told c.args.output.now) (g.O.Sink.told c.check_tagged.new.output) c.args.check.now c.args.below.taken.tags c.args.path.now c.args.bytes.now
    c.bytes_or-bytes.result.now (tally_of c.args.sums.now) c.if-not-below.false (c.bytes_or-bytes.ensures c.in_ok-text.ensures) c.in_err-count.ensures.begun)

pub returns-in_err-note_tagged-clause-begun : goal.returns-in_err-note_tagged-clause-begun
returns-in_err-note_tagged-clause-begun g c =
    OnErr-always c.from_residual-in_err-note_tagged.result _
    (tagged_whole (g.O.Sink.told c.args.output.now) (g.O.Sink.told c.check_tagged.new.output) c.args.check.now c.args.below.taken.tags c.args.path.now c.args.bytes.now
    c.bytes_or-bytes.result.now (tally_of c.args.sums.now) c.if-not-below.false (c.bytes_or-bytes.ensures c.in_ok-text.ensures) (tally_of c.check_tagged.new.sums) c.in_ok-count.count
    c.in_ok-count.ensures.ok)
