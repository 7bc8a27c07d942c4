use Rattle.std.proofs.Common.{ℕ, List, None, subst}
use Rattle.line_engine.proofs.Known.{OnErr-always}
use Rattle.check_files.specs.Begun.{IsBeginning, IsTagText}
use Rattle.check_files.specs.Parts.{source_at}
use Rattle.check_files.specs.Tally.{tally_of}
use Rattle.check_files.specs.Told.{Writes}
use Rattle.check_files.proofs.Begun.{no_text}
use Rattle.check_program.specs.Begun.{IsPartText}
use Rattle.check_program.proofs.path.check_tags.Goals as goal

pub returns-in_err-text-clause-begun : goal.returns-in_err-text-clause-begun
returns-in_err-text-clause-begun g c =
    OnErr-always c.from_residual.result _
    (no_text (g.O.Sink.told c.args.output.now) (IsPartText c.args.check.now None c.args.name.now c.args.bytes.now (tally_of c.args.sums.now)))

pub returns-in_err-check_tagged-clause-begun : goal.returns-in_err-check_tagged-clause-begun
returns-in_err-check_tagged-clause-begun g c =
    let out = g.O.Sink.told c.args.output.now in
    let out' = g.O.Sink.told c.check_tagged.new.output in
    OnErr-always c.from_residual-in_err-check_tagged.result _
    (subst (λ (bs : List ℕ). Writes out out' (IsBeginning (IsTagText c.args.check.now (source_at c.args.name.now bs) (tally_of c.args.sums.now)))) (c.bytes_or-bytes.ensures c.in_ok-text.ensures)
    c.in_err-check_tagged.ensures.begun)
