use Rattle.std.proofs.Common.{refl, rules}
use Rattle.check_files.specs.Told.{unkept}
use Rattle.list_program.specs.Named.{inside_of}
use Rattle.list_told.specs.Diffs.{IsNoDiff}
use Rattle.spdx_troubles.specs.Causes.{list_trouble}
use Rattle.spdx_commands.specs.Lists.{SaysDiffer}
use Rattle.spdx_commands.proofs.Stops.{stopped, unwritten}
use Rattle.spdx_commands.proofs.lists.diff.Goals as goal

pub returns-in_err-text-clause-err : goal.returns-in_err-text-clause-err
returns-in_err-text-clause-err g c =
    let s = g.S.Shelf.told c.args.shelf.now in
    let inside = inside_of c.args.inside.list.now c.args.inside.extras.now in
    stopped list_trouble (IsNoDiff s inside c.args.replacements.now c.args.lists) (SaysDiffer s inside c.args.replacements.now c.args.lists) (g.O.Sink.told c.args.output.now) unkept
    c.in_err-text.field-0.0 c.in_err-text.ensures.err c.from_residual.result c.from_residual.ensures.1

pub returns-in_err-write_all-clause-err : goal.returns-in_err-write_all-clause-err
returns-in_err-write_all-clause-err g c =
    let s = g.S.Shelf.told c.args.shelf.now in
    let inside = inside_of c.args.inside.list.now c.args.inside.extras.now in
    unwritten list_trouble (IsNoDiff s inside c.args.replacements.now c.args.lists) (SaysDiffer s inside c.args.replacements.now c.args.lists) (g.O.Sink.told c.args.output.now)
    (g.O.Sink.told c.write_all.new.output) c.in_ok-text.text.items (refl, c.in_ok-text.ensures.ok) (search rules) c.in_err-write_all.ensures.failed
    c.from_residual-in_err-write_all.result c.from_residual-in_err-write_all.ensures.1
