use Rattle.spdx_commands.proofs.Breaking.{at_silence, begun_off, broke}
use Rattle.spdx_commands.specs.Steps.{setting_of}
use Rattle.std.proofs.Common.{List, ℕ, refl, subst, true}
use Rattle.fix_program.specs.Files.{IsFixedAt, IsNotFixed}
use Rattle.spdx_commands.specs.Mend.{IsLeftOut, IsPlacedAgain, IsPlacedIf, IsTriedAgain, IsTriedIf, again, left_out, mended, stand, untried}
use Rattle.spdx_commands.proofs.Doings.{known, left_out_told, memory_off, result_known}
use Rattle.spdx_commands.proofs.deeds.place_again.Goals as goal

pub returns-in-Ok-clause-ok : goal.returns-in-Ok-clause-ok
returns-in-Ok-clause-ok g c =
    let w = setting_of g.S.Shelf.told c.args.means.now in
    let fixed = c.in-Ok.fixed in
    let at = subst (λ (p : List ℕ). IsFixedAt w.shelf w.rows true c.args.old.parts p fixed) c.as_str.ensures.value c.in-Ok.ensures.ok in
    result_known c.args.replaced.now c.place_if.new.replaced (λ _. IsPlacedIf w.breaks_links fixed.deed) (λ _. IsPlacedAgain w c.args.old) (λ before knows d is. mended fixed at is)
    (g.T.Listener.heard c.args.listener.now) (g.T.Listener.heard c.place_if.new.listener) (g.R.Replacing.tried c.args.replacer.now) (g.R.Replacing.tried c.place_if.new.replacer)
    c.place_if.result c.place_if.ensures.ok

pub returns-in_err-status-in-Err-clause-err : goal.returns-in_err-status-in-Err-clause-err
returns-in_err-status-in-Err-clause-err g c =
    memory_off (g.R.Replacing.tried c.args.replacer.now) (g.R.Replacing.tried c.args.replacer.now) c.from_residual.result c.from_residual.ensures.1

pub returns-clause-ok : goal.returns-clause-ok
returns-clause-ok g c = λ output.
    let w = setting_of g.S.Shelf.told c.args.means.now in
    let t = c.in-Err.trouble in
    let h = g.T.Listener.heard c.args.listener.now in
    let l = g.T.Listener.heard c.tell_left_out.new.listener in
    let k = g.R.Replacing.tried c.args.replacer.now in
    let at = subst (λ (p : List ℕ). IsNotFixed w.shelf w.rows true c.args.old.parts p t) c.as_str.ensures.value c.in-Err.ensures.err in
    known c.args.replaced.now c.args.replaced.now (λ _. IsLeftOut t) (λ _. IsPlacedAgain w c.args.old) (λ before knows d is. left_out t at is)
    (stand output h k) (stand output l k) c.in_ok-status-in-Err.status (left_out_told output h l k c.args.replaced.now t c.in_ok-status-in-Err.status c.in_ok-status-in-Err.ensures.ok)

pub returns-in-Ok-clause-begun : goal.returns-in-Ok-clause-begun
returns-in-Ok-clause-begun g c =
    let w = setting_of g.S.Shelf.told c.args.means.now in
    let fixed = c.in-Ok.fixed in
    let at = subst (λ (p : List ℕ). IsFixedAt w.shelf w.rows true c.args.old.parts p fixed) c.as_str.ensures.value c.in-Ok.ensures.ok in
    begun_off (IsTriedIf w.breaks_links fixed.deed) (IsTriedAgain w c.args.old) (λ d is. again fixed at is)
    (g.T.Listener.heard c.args.listener.now) (g.T.Listener.heard c.place_if.new.listener) (g.R.Replacing.tried c.args.replacer.now) (g.R.Replacing.tried c.place_if.new.replacer)
    c.place_if.result c.place_if.ensures.begun

pub returns-in_err-status-in-Err-clause-begun : goal.returns-in_err-status-in-Err-clause-begun
returns-in_err-status-in-Err-clause-begun g c =
    broke c.from_residual.result _
    (λ out. at_silence out (g.T.Listener.heard c.args.listener.now) (g.T.Listener.heard c.tell_left_out.new.listener) (g.R.Replacing.tried c.args.replacer.now)
    (IsTriedAgain (setting_of g.S.Shelf.told c.args.means.now) c.args.old) c.in_err-status-in-Err.ensures.memory (untried refl))
