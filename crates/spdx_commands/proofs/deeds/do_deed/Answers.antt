use Rattle.spdx_commands.proofs.Breaking.{at_text, begun_at, broke}
use Rattle.spdx_commands.specs.Steps.{Began, setting_of}
use Rattle.std.proofs.Common.{List, ℕ, refl, subst, sym}
use Rattle.std.specs.Io.KnownBytes.{Appends}
use Rattle.line_engine.specs.Progress.{AppendsBeginning}
use Rattle.fix_program.specs.declared.file.Deed.{Deed}
use Rattle.spdx_commands.specs.Mend.{IsDeedBegun, IsDeedDone, IsPlacedBy, IsTriedBy, nothing, stand, writing}
use Rattle.spdx_commands.specs.Replaced.{is_replaced}
use Rattle.spdx_commands.proofs.Doings.{idle, off_at, output_at, result_at, written}
use Rattle.spdx_commands.proofs.deeds.do_deed.Goals as goal

pub returns-in-Nothing-clause-ok : goal.returns-in-Nothing-clause-ok
returns-in-Nothing-clause-ok g c =
    let w = setting_of g.S.Shelf.told c.args.means.now in
    idle (stand (g.O.Sink.told c.args.output.now) (g.T.Listener.heard c.args.listener.now) (g.R.Replacing.tried c.args.replacer.now)) c.args.replaced.now (λ before. IsDeedDone w before c.args.deed)
    (λ before. subst (λ (x : Deed). IsDeedDone w before x nothing) (sym c.in-Nothing.is) refl)

pub returns-in_err-write_all-in-Put-clause-err : goal.returns-in_err-write_all-in-Put-clause-err
returns-in_err-write_all-in-Put-clause-err g c =
    let k = g.R.Replacing.tried c.args.replacer.now in
    output_at (g.O.Sink.told c.write_all.new.output) k k c.in_err-write_all-in-Put.ensures.failed c.from_residual.result c.from_residual.ensures.1

pub returns-in_ok-write_all-in-Put-clause-ok : goal.returns-in_ok-write_all-in-Put-clause-ok
returns-in_ok-write_all-in-Put-clause-ok g c =
    let w = setting_of g.S.Shelf.told c.args.means.now in
    let out = g.O.Sink.told c.args.output.now in
    let new = g.O.Sink.told c.write_all.new.output in
    written out new (g.T.Listener.heard c.args.listener.now) (g.R.Replacing.tried c.args.replacer.now) c.args.replaced.now c.in-Put.text.items (λ before. IsDeedDone w before c.args.deed)
    (subst (λ (bs : List ℕ). Appends out.bytes new.bytes bs) c.deref.ensures.value c.in_ok-write_all-in-Put.ensures.all)
    (λ before. subst (λ (x : Deed). IsDeedDone w before x (writing c.in-Put.text.items)) (sym c.in-Put.is) refl)

pub returns-in-Replace-clause-ok : goal.returns-in-Replace-clause-ok
returns-in-Replace-clause-ok g c =
    let w = setting_of g.S.Shelf.told c.args.means.now in
    let new = c.in-Replace.new in
    result_at c.args.replaced.now c.do_replacement.new.replaced (λ before. IsPlacedBy (is_replaced before new.stamp) w new) (λ before. IsDeedDone w before c.args.deed)
    (λ before knows d is. subst (λ (x : Deed). IsDeedDone w before x d) (sym c.in-Replace.is) is) (g.O.Sink.told c.args.output.now)
    (g.T.Listener.heard c.args.listener.now) (g.T.Listener.heard c.do_replacement.new.listener) (g.R.Replacing.tried c.args.replacer.now) (g.R.Replacing.tried c.do_replacement.new.replacer)
    c.do_replacement.result c.do_replacement.ensures.ok

pub returns-in-Replace-clause-err : goal.returns-in-Replace-clause-err
returns-in-Replace-clause-err g c =
    off_at (g.O.Sink.told c.args.output.now) (g.R.Replacing.tried c.args.replacer.now) (g.R.Replacing.tried c.do_replacement.new.replacer) c.do_replacement.result c.do_replacement.ensures.err

pub returns-in_err-write_all-in-Put-clause-begun : goal.returns-in_err-write_all-in-Put-clause-begun
returns-in_err-write_all-in-Put-clause-begun g c =
    let w = setting_of g.S.Shelf.told c.args.means.now in
    let begins = subst (AppendsBeginning (g.O.Sink.told c.args.output.now).bytes (g.O.Sink.told c.write_all.new.output).bytes) c.deref.ensures.value c.in_err-write_all-in-Put.ensures.begun in
    broke c.from_residual.result _
    (at_text (g.O.Sink.told c.args.output.now) (g.O.Sink.told c.write_all.new.output) (g.T.Listener.heard c.args.listener.now) (g.R.Replacing.tried c.args.replacer.now) c.in-Put.text.items
    (Began c.args.replaced.now (λ before. IsDeedBegun w before c.args.deed)) begins
    (λ d put before knows. subst (λ (x : Deed). IsDeedBegun w before x d) (sym c.in-Put.is) put))

pub returns-in-Replace-clause-begun : goal.returns-in-Replace-clause-begun
returns-in-Replace-clause-begun g c =
    let w = setting_of g.S.Shelf.told c.args.means.now in
    let new = c.in-Replace.new in
    begun_at (Began c.args.replaced.now (λ before. IsTriedBy (is_replaced before new.stamp) w new)) (Began c.args.replaced.now (λ before. IsDeedBegun w before c.args.deed))
    (λ d is before knows. subst (λ (x : Deed). IsDeedBegun w before x d) (sym c.in-Replace.is) (is before knows)) (g.T.Listener.heard c.args.listener.now) (g.T.Listener.heard c.do_replacement.new.listener)
    (g.R.Replacing.tried c.args.replacer.now) (g.R.Replacing.tried c.do_replacement.new.replacer) (g.O.Sink.told c.args.output.now) c.do_replacement.result c.do_replacement.ensures.begun
