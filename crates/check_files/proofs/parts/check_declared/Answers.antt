use Rattle.std.proofs.Common.{ℕ, List, rules, subst}
use Rattle.std.specs.Io.KnownBytes.{Appends}
use Rattle.check_sources.specs.Manifests.{sites_in}
use Rattle.check_sources.specs.Stood.{source_of}
use Rattle.check_files.specs.Tally.{tally_of}
use Rattle.check_files.proofs.Wholes.{declared_written}
use Rattle.line_engine.specs.Progress.{AppendsBeginning}
use Rattle.line_engine.proofs.Known.{AppendsBeginning-all, OnErr-always}
use Rattle.check_files.specs.Begun.{IsManifestText}
use Rattle.check_files.proofs.Begun.{manifest_text, no_text, part_of_text}
use Rattle.check_files.proofs.parts.check_declared.Goals as goal

pub returns-clause-ok : goal.returns-clause-ok
returns-clause-ok g c =
    declared_written (g.O.Sink.told c.args.output.now) (g.O.Sink.told c.write_all.new.output) c.args.check.now c.args.form (source_of c.args.source) c.args.sums.now c.counted-text.new.sums
    (tally_of c.note_table.new.sums) c.is_clean.result (sites_in c.in_ok-checked.checked.sites) c.in_ok-checked.checked.found.text.items c.counted-text.result.items c.in_ok-checked.checked.found.summary c.is_clean.ensures c.in_ok-checked.ensures c.counted-text.ensures
    (subst (λ (bs : List ℕ). Appends (g.O.Sink.told c.args.output.now).bytes (g.O.Sink.told c.write_all.new.output).bytes bs) c.deref.ensures.value c.in_ok-write_all.ensures.all) c.in_ok-note_table.ensures
    (search rules)

pub returns-in_err-checked-clause-begun : goal.returns-in_err-checked-clause-begun
returns-in_err-checked-clause-begun g c =
    OnErr-always c.from_residual.result _
    (no_text (g.O.Sink.told c.args.output.now) (IsManifestText c.args.check.now c.args.form (source_of c.args.source) (tally_of c.args.sums.now)))

pub returns-in_err-write_all-clause-begun : goal.returns-in_err-write_all-clause-begun
returns-in_err-write_all-clause-begun g c =
    let out = g.O.Sink.told c.args.output.now in
    let out' = g.O.Sink.told c.write_all.new.output in
    let checked = c.in_ok-checked.checked in
    let found = checked.found in
    OnErr-always c.from_residual-in_err-write_all.result _
    (part_of_text out out' (IsManifestText c.args.check.now c.args.form (source_of c.args.source) (tally_of c.args.sums.now)) c.counted-text.result.items
    (manifest_text c.args.check.now c.args.form (source_of c.args.source) (tally_of c.args.sums.now) c.is_clean.result (sites_in checked.sites) found.text.items c.counted-text.result.items found.summary c.is_clean.ensures
    c.in_ok-checked.ensures c.counted-text.ensures.text_is)
    (subst (λ (bs : List ℕ). AppendsBeginning out.bytes out'.bytes bs) c.deref.ensures.value c.in_err-write_all.ensures.begun))

pub returns-in_err-note_table-clause-begun : goal.returns-in_err-note_table-clause-begun
returns-in_err-note_table-clause-begun g c =
    let out = g.O.Sink.told c.args.output.now in
    let out' = g.O.Sink.told c.write_all.new.output in
    let checked = c.in_ok-checked.checked in
    let found = checked.found in
    OnErr-always c.from_residual-in_err-note_table.result _
    (part_of_text out out' (IsManifestText c.args.check.now c.args.form (source_of c.args.source) (tally_of c.args.sums.now)) c.counted-text.result.items
    (manifest_text c.args.check.now c.args.form (source_of c.args.source) (tally_of c.args.sums.now) c.is_clean.result (sites_in checked.sites) found.text.items c.counted-text.result.items found.summary c.is_clean.ensures
    c.in_ok-checked.ensures c.counted-text.ensures.text_is)
    (AppendsBeginning-all out.bytes out'.bytes c.counted-text.result.items
    (subst (λ (bs : List ℕ). Appends out.bytes out'.bytes bs) c.deref.ensures.value c.in_ok-write_all.ensures.all)))
