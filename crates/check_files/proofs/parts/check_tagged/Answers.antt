use Rattle.std.proofs.Common.{ℕ, List, subst}
use Rattle.line_engine.specs.Progress.{AppendsBeginning}
use Rattle.line_engine.proofs.Known.{OnErr-always}
use Rattle.check_sources.specs.Stood.{source_of}
use Rattle.check_files.specs.Begun.{IsTagText}
use Rattle.check_files.specs.Tally.{tally_of}
use Rattle.check_files.proofs.Begun.{no_text, part_of_text, tag_text}
use Rattle.check_files.proofs.parts.check_tagged.Goals as goal

pub returns-in_err-found-clause-begun : goal.returns-in_err-found-clause-begun
returns-in_err-found-clause-begun g c =
    OnErr-always c.from_residual.result _
    (no_text (g.O.Sink.told c.args.output.now) (IsTagText c.args.check.now (source_of c.args.source) (tally_of c.args.sums.now)))

pub returns-in_err-write_all-clause-begun : goal.returns-in_err-write_all-clause-begun
returns-in_err-write_all-clause-begun g c =
    let out = g.O.Sink.told c.args.output.now in
    let out' = g.O.Sink.told c.write_all.new.output in
    let found = c.in_ok-found.found in
    OnErr-always c.from_residual-in_err-write_all.result _
    (part_of_text out out' (IsTagText c.args.check.now (source_of c.args.source) (tally_of c.args.sums.now)) c.counted-text.result.items
    (tag_text c.args.check.now (source_of c.args.source) (tally_of c.args.sums.now) c.is_clean.result found.text.items c.counted-text.result.items found.summary c.is_clean.ensures
    c.in_ok-found.ensures c.counted-text.ensures.text_is)
    (subst (λ (bs : List ℕ). AppendsBeginning out.bytes out'.bytes bs) c.deref.ensures.value c.in_err-write_all.ensures.begun))
