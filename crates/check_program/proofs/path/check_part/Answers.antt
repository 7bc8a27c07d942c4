use Rattle.std.proofs.Common.{Option, subst, sym}
use Rattle.manifests.specs.declared.form.Form.{Form}
use Rattle.check_files.specs.Begun.{IsBeginning}
use Rattle.check_files.specs.Tally.{tally_of}
use Rattle.check_files.specs.Told.{Writes}
use Rattle.check_files.proofs.Begun.{on_err}
use Rattle.check_program.specs.Begun.{IsPartText}
use Rattle.check_program.proofs.path.check_part.Goals as goal

pub returns-in-Some-clause-begun : goal.returns-in-Some-clause-begun
returns-in-Some-clause-begun g c =
    let out = g.O.Sink.told c.args.output.now in
    let out' = g.O.Sink.told c.check_manifest.new.output in
    on_err c.check_manifest.result _ _
    (subst (λ (f : Option Form). Writes out out' (IsBeginning (IsPartText c.args.check.now f c.args.name.now c.args.bytes.now (tally_of c.args.sums.now)))) (sym c.in-Some.is))
    c.check_manifest.ensures.begun

pub returns-in-None-clause-begun : goal.returns-in-None-clause-begun
returns-in-None-clause-begun g c =
    let out = g.O.Sink.told c.args.output.now in
    let out' = g.O.Sink.told c.check_tags.new.output in
    on_err c.check_tags.result _ _
    (subst (λ (f : Option Form). Writes out out' (IsBeginning (IsPartText c.args.check.now f c.args.name.now c.args.bytes.now (tally_of c.args.sums.now)))) (sym c.in-None.is))
    c.check_tags.ensures.begun
