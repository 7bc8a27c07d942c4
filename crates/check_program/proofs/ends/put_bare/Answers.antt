use Rattle.std.proofs.Common.{ℕ, List, ap, map, string_bytes, subst, ◌∙◌}
use Rattle.line_engine.specs.Progress.{AppendsBeginning}
use Rattle.line_engine.proofs.Known.{OnErr-always}
use Rattle.check_sources.specs.Owed.{bare_at, whole_of}
use Rattle.check_files.specs.Tally.{tally_of}
use Rattle.check_files.proofs.Begun.{no_text}
use Rattle.check_program.specs.TreeBegun.{IsWholesText}
use Rattle.check_program.proofs.TreeBegun.{wholes_begun}
use Rattle.check_program.proofs.ends.put_bare.Goals as goal

pub returns-in_err-wholes-clause-begun : goal.returns-in_err-wholes-clause-begun
returns-in_err-wholes-clause-begun g c =
    OnErr-always c.from_residual.result _
    (no_text (g.O.Sink.told c.args.output.now) (IsWholesText c.args.check.now (map bare_at (map string_bytes c.args.untagged.now)) (tally_of c.args.sums.now)))

pub returns-in_err-text-clause-begun : goal.returns-in_err-text-clause-begun
returns-in_err-text-clause-begun g c =
    OnErr-always c.from_residual-in_err-text.result _
    (no_text (g.O.Sink.told c.args.output.now) (IsWholesText c.args.check.now (map bare_at (map string_bytes c.args.untagged.now)) (tally_of c.args.sums.now)))

pub returns-in_err-write_all-clause-begun : goal.returns-in_err-write_all-clause-begun
returns-in_err-write_all-clause-begun g c =
    let out = g.O.Sink.told c.args.output.now in
    let out' = g.O.Sink.told c.write_all.new.output in
    OnErr-always c.from_residual-in_err-write_all.result _
    (wholes_begun c.args.check.now out out' (map whole_of c.deref.result.now) (map bare_at (map string_bytes c.args.untagged.now)) (tally_of c.args.sums.now) c.in_ok-text.text.items
    c.in_ok-text.ensures (ap (map whole_of) c.deref.ensures.value ∙ c.in_ok-wholes.ensures)
    (subst (λ (bs : List ℕ). AppendsBeginning out.bytes out'.bytes bs) c.deref-2.ensures.value c.in_err-write_all.ensures.begun))
