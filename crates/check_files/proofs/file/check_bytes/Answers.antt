use Rattle.std.proofs.Common.{refl, map, string_bytes}
use Rattle.std.specs.Option.{option_copied}
use Rattle.check_files.specs.Noted.{notes_of}
use Rattle.check_files.specs.Tally.{tally_of}
use Rattle.check_files.proofs.Wholes.{file_written}
use Rattle.line_engine.proofs.Known.{OnErr-always}
use Rattle.check_files.proofs.Begun.{behind_tags, within_declared, within_tags}
use Rattle.check_files.proofs.file.check_bytes.Goals as goal

pub returns-clause-ok : goal.returns-clause-ok
returns-clause-ok g c =
    file_written (g.S.Shelf.told c.args.shelf.now) c.args.check.now c.args.below.taken (option_copied c.args.below.folder) c.args.path.now c.args.bytes.now (tally_of c.args.sums.now)
    (tally_of c.declared_part.new.sums) (tally_of c.tags_part.new.sums) (tally_of c.count_once.new.sums) (notes_of c.args.noted.now) _ _ (g.O.Sink.told c.args.output.now) (g.O.Sink.told c.declared_part.new.output)
    (g.O.Sink.told c.tags_part.new.output) c.form_below-form.result c.in_ok-declared.declared c.in_ok-tagged.tagged c.has_both.result c.has_none.result c.form_below-form.ensures c.in_ok-declared.ensures.ok c.in_ok-tagged.ensures.ok
    c.has_both.ensures c.count_once.ensures c.has_none.ensures c.in_ok-note_file.ensures refl

pub returns-in_err-declared-clause-begun : goal.returns-in_err-declared-clause-begun
returns-in_err-declared-clause-begun g c =
    OnErr-always c.from_residual.result _
    (within_declared c.args.check.now c.args.below.taken (option_copied c.args.below.folder) c.args.path.now c.args.bytes.now (tally_of c.args.sums.now) (notes_of c.args.noted.now)
    c.form_below-form.result c.form_below-form.ensures (g.O.Sink.told c.args.output.now) (g.O.Sink.told c.declared_part.new.output) c.in_err-declared.ensures.begun)

pub returns-in_err-tagged-clause-begun : goal.returns-in_err-tagged-clause-begun
returns-in_err-tagged-clause-begun g c =
    OnErr-always c.from_residual-in_err-tagged.result _
    (within_tags c.args.check.now c.args.below.taken (option_copied c.args.below.folder) c.args.path.now c.args.bytes.now (tally_of c.args.sums.now) (notes_of c.args.noted.now)
    c.form_below-form.result c.form_below-form.ensures (g.O.Sink.told c.args.output.now) (g.O.Sink.told c.declared_part.new.output) (tally_of c.declared_part.new.sums)
    (map string_bytes c.declared_part.new.used.items) c.in_ok-declared.declared c.in_ok-declared.ensures.ok (g.O.Sink.told c.tags_part.new.output) c.in_err-tagged.ensures.begun)

pub returns-in_err-note_file-clause-begun : goal.returns-in_err-note_file-clause-begun
returns-in_err-note_file-clause-begun g c =
    OnErr-always c.from_residual-in_err-note_file.result _
    (behind_tags c.args.check.now c.args.below.taken (option_copied c.args.below.folder) c.args.path.now c.args.bytes.now (tally_of c.args.sums.now) (notes_of c.args.noted.now)
    c.form_below-form.result c.form_below-form.ensures (g.O.Sink.told c.args.output.now) (g.O.Sink.told c.declared_part.new.output) (tally_of c.declared_part.new.sums)
    (map string_bytes c.declared_part.new.used.items) c.in_ok-declared.declared c.in_ok-declared.ensures.ok (g.O.Sink.told c.tags_part.new.output) (tally_of c.tags_part.new.sums)
    (map string_bytes c.tags_part.new.used.items) c.in_ok-tagged.tagged c.in_ok-tagged.ensures.ok)
