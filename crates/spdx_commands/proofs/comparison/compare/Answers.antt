use Rattle.std.proofs.Common.{refl, rules}
use Rattle.check_files.specs.Told.{unkept}
use Rattle.list_program.specs.Named.{inside_of}
use Rattle.meaning_program.specs.Compared.{IsNotCompared}
use Rattle.spdx_troubles.specs.Causes.{meaning_trouble}
use Rattle.spdx_commands.specs.Compare.{SaysCompared, status_of}
use Rattle.spdx_commands.proofs.Steps.{says_same}
use Rattle.spdx_commands.proofs.Stops.{stopped, unwritten}
use Rattle.spdx_commands.proofs.comparison.compare.Goals as goal

pub returns-in_err-told-clause-err : goal.returns-in_err-told-clause-err
returns-in_err-told-clause-err g c =
    let s = g.S.Shelf.told c.args.shelf.now in
    let inside = inside_of c.args.inside.list.now c.args.inside.extras.now in
    stopped meaning_trouble (IsNotCompared s inside c.args.asked) (SaysCompared s inside c.args.asked) (g.O.Sink.told c.args.output.now) unkept
    c.in_err-told.field-0.0 c.in_err-told.ensures.err c.from_residual.result c.from_residual.ensures.1

pub returns-in_err-write_all-clause-err : goal.returns-in_err-write_all-clause-err
returns-in_err-write_all-clause-err g c =
    let s = g.S.Shelf.told c.args.shelf.now in
    let inside = inside_of c.args.inside.list.now c.args.inside.extras.now in
    unwritten meaning_trouble (IsNotCompared s inside c.args.asked) (SaysCompared s inside c.args.asked) (g.O.Sink.told c.args.output.now) (g.O.Sink.told c.write_all.new.output)
    c.in_ok-told.told.text.items (refl, (status_of c.in_ok-told.told.is_same, record { told = c.in_ok-told.told; is_compared = c.in_ok-told.ensures.ok; text_is = refl; status_is = refl }))
    (search rules) c.in_err-write_all.ensures.failed c.from_residual-in_err-write_all.result c.from_residual-in_err-write_all.ensures.1

pub returns-clause-same : goal.returns-clause-same
returns-clause-same g c =
    says_same (g.S.Shelf.told c.args.shelf.now) (inside_of c.args.inside.list.now c.args.inside.extras.now) c.args.asked c.in_ok-told.told c.status_of.result c.in_ok-told.ensures.same c.status_of.ensures
