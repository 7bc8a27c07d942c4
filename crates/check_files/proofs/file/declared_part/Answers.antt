use Rattle.std.proofs.Common.{map, string_bytes}
use Rattle.std.specs.Option.{option_copied}
use Rattle.line_engine.proofs.Known.{OnErr-always}
use Rattle.check_sources.specs.Manifests.{sites_in}
use Rattle.check_files.specs.Tally.{tally_of}
use Rattle.check_files.proofs.Begun.{declared_begun, declared_whole}
use Rattle.check_files.proofs.Wholes.{manifest_noted}
use Rattle.check_files.proofs.file.declared_part.Goals as goal

pub returns-clause-ok : goal.returns-clause-ok
returns-clause-ok g c =
    manifest_noted (g.O.Sink.told c.args.output.now) (g.O.Sink.told c.check_declared.new.output) c.args.check.now (option_copied c.args.folder) c.args.form c.in-Some.form c.args.path.now c.args.bytes.now
    c.without_mark-bytes.result.now (tally_of c.args.sums.now) (tally_of c.check_declared.new.sums) (map string_bytes c.args.used.now.items) (map string_bytes c.note_declared.new.used.items)
    (sites_in c.in_ok-declared.declared.sites) c.in_ok-declared.declared.count c.in-Some.is c.without_mark-bytes.ensures c.in_ok-declared.ensures.ok c.in_ok-note_declared.ensures

pub returns-in_err-declared-clause-begun : goal.returns-in_err-declared-clause-begun
returns-in_err-declared-clause-begun g c =
    OnErr-always c.from_residual.result _
    (declared_begun (g.O.Sink.told c.args.output.now) (g.O.Sink.told c.check_declared.new.output) c.args.check.now c.args.form c.in-Some.form c.args.path.now c.args.bytes.now
    c.without_mark-bytes.result.now (tally_of c.args.sums.now) c.in-Some.is c.without_mark-bytes.ensures c.in_err-declared.ensures.begun)

pub returns-in_err-note_declared-clause-begun : goal.returns-in_err-note_declared-clause-begun
returns-in_err-note_declared-clause-begun g c =
    OnErr-always c.from_residual-in_err-note_declared.result _
    (declared_whole (g.O.Sink.told c.args.output.now) (g.O.Sink.told c.check_declared.new.output) c.args.check.now c.args.form c.in-Some.form c.args.path.now c.args.bytes.now
    c.without_mark-bytes.result.now (tally_of c.args.sums.now) c.in-Some.is c.without_mark-bytes.ensures (tally_of c.check_declared.new.sums) (sites_in c.in_ok-declared.declared.sites)
    c.in_ok-declared.declared.count c.in_ok-declared.ensures.ok)
