use Rattle.spdx_commands.proofs.Breaking.{at_none, at_silence, begun_of, broke}
use Rattle.spdx_commands.specs.Steps.{Began, setting_of}
use Rattle.std.proofs.Common.{◌≡◌, ◌++◌, append-nil, refl, subst, sym}
use Rattle.fix_program.specs.declared.ends.FileEnd.{FileEnd}
use Rattle.spdx_commands.specs.Mend.{IsDeedBegun, IsDeedDone, IsEndBegun, IsEndDone, IsLeftOut, left_behind, nothing, stand}
use Rattle.spdx_commands.proofs.Doings.{idle, known, left_out_told, memory_at, on_ok, result_of}
use Rattle.spdx_commands.proofs.deeds.do_end.Goals as goal

pub returns-in-Fixed-clause-ok : goal.returns-in-Fixed-clause-ok
returns-in-Fixed-clause-ok g c =
    let w = setting_of g.S.Shelf.told c.args.means.now in
    result_of c.args.so_far.now.replaced c.do_deed.new.replaced (λ before. IsDeedDone w before c.in-Fixed.fixed.deed) (λ before. IsEndDone w before c.args.end)
    (λ before knows d is. subst (λ (e : FileEnd). IsEndDone w before e d) (sym c.in-Fixed.is) is)
    (stand (g.O.Sink.told c.args.output.now) (g.T.Listener.heard c.args.listener.now) (g.R.Replacing.tried c.args.replacer.now))
    (stand (g.O.Sink.told c.do_deed.new.output) (g.T.Listener.heard c.do_deed.new.listener) (g.R.Replacing.tried c.do_deed.new.replacer)) c.do_deed.result c.do_deed.ensures.ok

pub returns-in-Fixed-clause-left : goal.returns-in-Fixed-clause-left
returns-in-Fixed-clause-left g c =
    let left = c.args.so_far.now.left.items in
    on_ok c.do_deed.result (left ≡ left ++ left_behind c.args.end) (subst (λ (e : FileEnd). left ≡ left ++ left_behind e) (sym c.in-Fixed.is) (sym (append-nil left)))

pub returns-in_err-status-in-LeftOut-clause-err : goal.returns-in_err-status-in-LeftOut-clause-err
returns-in_err-status-in-LeftOut-clause-err g c =
    memory_at (g.O.Sink.told c.args.output.now) (g.R.Replacing.tried c.args.replacer.now) (g.R.Replacing.tried c.args.replacer.now) c.from_residual.result c.from_residual.ensures.1

pub returns-in_ok-status-in-LeftOut-clause-ok : goal.returns-in_ok-status-in-LeftOut-clause-ok
returns-in_ok-status-in-LeftOut-clause-ok g c =
    let w = setting_of g.S.Shelf.told c.args.means.now in
    let nodes = c.args.so_far.now.replaced in
    let out = g.O.Sink.told c.args.output.now in
    let h = g.T.Listener.heard c.args.listener.now in
    let l = g.T.Listener.heard c.tell_left_out.new.listener in
    let k = g.R.Replacing.tried c.args.replacer.now in
    let status = c.in_ok-status-in-LeftOut.status in
    known nodes nodes (λ _. IsLeftOut c.in-LeftOut.trouble) (λ before. IsEndDone w before c.args.end) (λ before knows d is. subst (λ (e : FileEnd). IsEndDone w before e d) (sym c.in-LeftOut.is) is)
    (stand out h k) (stand out l k) status (left_out_told out h l k nodes c.in-LeftOut.trouble status c.in_ok-status-in-LeftOut.ensures.ok)

pub returns-in_ok-status-in-LeftOut-clause-left : goal.returns-in_ok-status-in-LeftOut-clause-left
returns-in_ok-status-in-LeftOut-clause-left g c =
    let left = c.args.so_far.now.left.items in
    subst (λ (e : FileEnd). left ≡ left ++ left_behind e) (sym c.in-LeftOut.is) (sym (append-nil left))

pub returns-in_err-push-in-LeftBehind-clause-err : goal.returns-in_err-push-in-LeftBehind-clause-err
returns-in_err-push-in-LeftBehind-clause-err g c =
    memory_at (g.O.Sink.told c.args.output.now) (g.R.Replacing.tried c.args.replacer.now) (g.R.Replacing.tried c.args.replacer.now) c.from_residual-in_err-push-in-LeftBehind.result c.from_residual-in_err-push-in-LeftBehind.ensures.1

pub returns-in_ok-push-in-LeftBehind-clause-ok : goal.returns-in_ok-push-in-LeftBehind-clause-ok
returns-in_ok-push-in-LeftBehind-clause-ok g c =
    let w = setting_of g.S.Shelf.told c.args.means.now in
    idle (stand (g.O.Sink.told c.args.output.now) (g.T.Listener.heard c.args.listener.now) (g.R.Replacing.tried c.args.replacer.now)) c.args.so_far.now.replaced (λ before. IsEndDone w before c.args.end)
    (λ before. subst (λ (e : FileEnd). IsEndDone w before e nothing) (sym c.in-LeftBehind.is) refl)

pub returns-in-Fixed-clause-begun : goal.returns-in-Fixed-clause-begun
returns-in-Fixed-clause-begun g c =
    let w = setting_of g.S.Shelf.told c.args.means.now in
    let known = c.args.so_far.now.replaced in
    begun_of (Began known (λ before. IsDeedBegun w before c.in-Fixed.fixed.deed)) (Began known (λ before. IsEndBegun w before c.args.end))
    (λ d is before knows. subst (λ (e : FileEnd). IsEndBegun w before e d) (sym c.in-Fixed.is) (is before knows))
    (stand (g.O.Sink.told c.args.output.now) (g.T.Listener.heard c.args.listener.now) (g.R.Replacing.tried c.args.replacer.now))
    (stand (g.O.Sink.told c.do_deed.new.output) (g.T.Listener.heard c.do_deed.new.listener) (g.R.Replacing.tried c.do_deed.new.replacer)) c.do_deed.result c.do_deed.ensures.begun

pub returns-in_err-status-in-LeftOut-clause-begun : goal.returns-in_err-status-in-LeftOut-clause-begun
returns-in_err-status-in-LeftOut-clause-begun g c =
    let w = setting_of g.S.Shelf.told c.args.means.now in
    broke c.from_residual.result _
    (at_silence (g.O.Sink.told c.args.output.now) (g.T.Listener.heard c.args.listener.now) (g.T.Listener.heard c.tell_left_out.new.listener) (g.R.Replacing.tried c.args.replacer.now)
    (Began c.args.so_far.now.replaced (λ before. IsEndBegun w before c.args.end)) c.in_err-status-in-LeftOut.ensures.memory
    (λ before knows. subst (λ (e : FileEnd). IsEndBegun w before e nothing) (sym c.in-LeftOut.is) refl))

pub returns-in_err-push-in-LeftBehind-clause-begun : goal.returns-in_err-push-in-LeftBehind-clause-begun
returns-in_err-push-in-LeftBehind-clause-begun g c =
    let w = setting_of g.S.Shelf.told c.args.means.now in
    broke _ _
    (at_none (stand (g.O.Sink.told c.args.output.now) (g.T.Listener.heard c.args.listener.now) (g.R.Replacing.tried c.args.replacer.now))
    (Began c.args.so_far.now.replaced (λ before. IsEndBegun w before c.args.end)) (λ before knows. subst (λ (e : FileEnd). IsEndBegun w before e nothing) (sym c.in-LeftBehind.is) refl))
