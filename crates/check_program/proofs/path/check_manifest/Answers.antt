use Rattle.std.proofs.Common.{ℕ, List, subst}
use Rattle.line_engine.proofs.Known.{OnErr-always}
use Rattle.check_sources.specs.Manifests.{sites_in}
use Rattle.check_files.specs.Begun.{IsBeginning, IsManifestText}
use Rattle.check_files.specs.Parts.{IsManifestChecked, source_at}
use Rattle.check_files.specs.Tally.{tally_of}
use Rattle.check_files.specs.Told.{Writes}
use Rattle.check_program.proofs.path.check_manifest.Goals as goal

pub returns-clause-ok : goal.returns-clause-ok
returns-clause-ok g c =
    let written = c.in_ok-check_declared.ensures.ok in
    let declared = c.in_ok-check_declared.field-0 in
    let sites = sites_in declared.sites in (
      written.0,
      written.1,
      (
        sites,
        declared.count,
        subst (λ (bs : List ℕ). IsManifestChecked c.args.check.now c.args.form (source_at c.args.name.now bs) (tally_of c.args.sums.now) sites written.0 declared.count (tally_of c.check_declared.new.sums))
            c.without_mark-bytes.ensures written.2,
      ),
    )

pub returns-in_err-check_declared-clause-begun : goal.returns-in_err-check_declared-clause-begun
returns-in_err-check_declared-clause-begun g c =
    let out = g.O.Sink.told c.args.output.now in
    let out' = g.O.Sink.told c.check_declared.new.output in
    OnErr-always c.from_residual.result _
    (subst (λ (bs : List ℕ). Writes out out' (IsBeginning (IsManifestText c.args.check.now c.args.form (source_at c.args.name.now bs) (tally_of c.args.sums.now)))) c.without_mark-bytes.ensures
    c.in_err-check_declared.ensures.begun)
