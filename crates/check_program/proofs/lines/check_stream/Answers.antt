use Rattle.std.proofs.Common.{Err, IfErr, Result, subst, refl}
use Rattle.line_engine.specs.Device.{devices}
use Rattle.spdx_check.specs.declared.lines.Checked.{Checked}
use Rattle.spdx_check.specs.declared.lines.LinesFault.{LinesFault}
use Rattle.spdx_check.specs.Checking.{ChecksLines, FailsIfBroken}
use Rattle.check_files.specs.Tally.{tally_of}
use Rattle.check_files.proofs.Steps.{on_ok}
use Rattle.check_program.proofs.Streams.{broken, whole}
use Rattle.check_files.proofs.Begun.{on_err}
use Rattle.check_program.proofs.Begun.{lines_begun}
use Rattle.check_program.proofs.lines.check_stream.Goals as goal

pub returns-in-Ok-clause-ok : goal.returns-in-Ok-clause-ok
returns-in-Ok-clause-ok g c =
    let t = g.I.Source.told c.args.input in
    let t' = g.I.Source.told c.check_lines.new.input in
    let out = g.O.Sink.told c.args.output.now in
    let out' = g.O.Sink.told c.check_lines.new.output in
    whole c.args.check.now c.is_clean.result c.args.name.now t t' out out' (g.I.Source.MayFail c.args.input) (g.T.Telling.told c.args.teller.now) (tally_of c.args.sums.now) (tally_of c.count.new.sums) c.in-Ok.checked c.is_clean.ensures
    (subst (λ (r : Result Checked LinesFault). ChecksLines c.args.check.now c.is_clean.result c.args.name.now (devices t t' out out') r) c.in-Ok.is c.check_lines.ensures.checks) c.count.ensures

pub returns-in-Err-Read-clause-ok : goal.returns-in-Err-Read-clause-ok
returns-in-Err-Read-clause-ok g c =
    let t = g.I.Source.told c.args.input in
    let t' = g.I.Source.told c.check_lines.new.input in
    let out = g.O.Sink.told c.args.output.now in
    let out' = g.O.Sink.told c.check_lines.new.output in
    let may_fail = g.I.Source.MayFail c.args.input in
    let checked = c.in-Err-Read.checked in
    let h =
    subst (λ (r : Result Checked LinesFault). ChecksLines c.args.check.now c.is_clean.result c.args.name.now (devices t t' out out') r) c.in-Err-Read.is c.check_lines.ensures.checks in
    let broke =
    subst (λ (f : LinesFault). ChecksLines c.args.check.now c.is_clean.result c.args.name.now (devices t t' out out') (Err f)) c.in-Err-Read.field-0-is h in
    let fails =
    subst (FailsIfBroken may_fail) c.in-Err-Read.field-0-is (subst (λ (r : Result Checked LinesFault). IfErr r (FailsIfBroken may_fail)) c.in-Err-Read.is c.check_lines.ensures.fails) in
    on_ok c.pass_broken.result _ _
    (broken c.args.check.now c.is_clean.result c.args.name.now t t' out out' may_fail (g.T.Telling.told c.args.teller.now) (g.T.Telling.told c.pass_broken.new.teller) (tally_of c.args.sums.now)
    (tally_of c.count-in-Err-Read.new.sums) (tally_of c.pass_broken.new.sums) checked c.is_clean.ensures broke fails c.count-in-Err-Read.ensures)
    c.pass_broken.ensures.ok

pub returns-in-Err-Read-clause-begun : goal.returns-in-Err-Read-clause-begun
returns-in-Err-Read-clause-begun g c =
    let t = g.I.Source.told c.args.input in
    let t' = g.I.Source.told c.check_lines.new.input in
    let out = g.O.Sink.told c.args.output.now in
    let out' = g.O.Sink.told c.check_lines.new.output in
    let h =
    subst (λ (r : Result Checked LinesFault). ChecksLines c.args.check.now c.is_clean.result c.args.name.now (devices t t' out out') r) c.in-Err-Read.is c.check_lines.ensures.checks in
    on_err c.pass_broken.result _ _
    (lines_begun c.args.check.now c.is_clean.result c.args.name.now t t' out out' (g.T.Telling.told c.args.teller.now) (g.T.Telling.told c.pass_broken.new.teller) (tally_of c.args.sums.now)
    c.in-Err-Read.field-0 c.is_clean.ensures h)
    c.pass_broken.ensures.memory

pub returns-in-Err-Write-clause-begun : goal.returns-in-Err-Write-clause-begun
returns-in-Err-Write-clause-begun g c =
    let t = g.I.Source.told c.args.input in
    let t' = g.I.Source.told c.check_lines.new.input in
    let out = g.O.Sink.told c.args.output.now in
    let out' = g.O.Sink.told c.check_lines.new.output in
    let h =
    subst (λ (r : Result Checked LinesFault). ChecksLines c.args.check.now c.is_clean.result c.args.name.now (devices t t' out out') r) c.in-Err-Write.is c.check_lines.ensures.checks in
    lines_begun c.args.check.now c.is_clean.result c.args.name.now t t' out out' (g.T.Telling.told c.args.teller.now) (g.T.Telling.told c.args.teller.now) (tally_of c.args.sums.now) _
    c.is_clean.ensures h refl

pub returns-clause-begun : goal.returns-clause-begun
returns-clause-begun g c =
    let t = g.I.Source.told c.args.input in
    let t' = g.I.Source.told c.check_lines.new.input in
    let out = g.O.Sink.told c.args.output.now in
    let out' = g.O.Sink.told c.check_lines.new.output in
    let h =
    subst (λ (r : Result Checked LinesFault). ChecksLines c.args.check.now c.is_clean.result c.args.name.now (devices t t' out out') r) c.in-Err-Memory.is c.check_lines.ensures.checks in
    lines_begun c.args.check.now c.is_clean.result c.args.name.now t t' out out' (g.T.Telling.told c.args.teller.now) (g.T.Telling.told c.args.teller.now) (tally_of c.args.sums.now) _
    c.is_clean.ensures h refl
