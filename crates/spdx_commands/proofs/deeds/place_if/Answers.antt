use Rattle.std.proofs.Common.{refl, subst, sym}
use Rattle.fix_program.specs.declared.file.Deed.{Deed}
use Rattle.spdx_commands.specs.Mend.{IsPlaced, IsPlacedIf, IsTried, IsTriedIf, nothing, stand}
use Rattle.spdx_commands.proofs.Breaking.{begun_off}
use Rattle.spdx_commands.proofs.Doings.{idle, result_known}
use Rattle.spdx_commands.proofs.deeds.place_if.Goals as goal

pub returns-in-Replace-clause-ok : goal.returns-in-Replace-clause-ok
returns-in-Replace-clause-ok g c =
    result_known c.args.replaced.now c.place.new.replaced (λ _. IsPlaced c.args.breaks_links c.in-Replace.new) (λ _. IsPlacedIf c.args.breaks_links c.args.deed)
    (λ before knows d is. subst (λ (x : Deed). IsPlacedIf c.args.breaks_links x d) (sym c.in-Replace.is) is) (g.T.Listener.heard c.args.listener.now) (g.T.Listener.heard c.place.new.listener)
    (g.R.Replacing.tried c.args.replacer.now) (g.R.Replacing.tried c.place.new.replacer) c.place.result c.place.ensures.ok

pub returns-in-Nothing-clause-ok : goal.returns-in-Nothing-clause-ok
returns-in-Nothing-clause-ok g c = λ output.
    idle (stand output (g.T.Listener.heard c.args.listener.now) (g.R.Replacing.tried c.args.replacer.now)) c.args.replaced.now (λ _. IsPlacedIf c.args.breaks_links c.args.deed)
    (λ before. subst (λ (x : Deed). IsPlacedIf c.args.breaks_links x nothing) (sym c.in-Nothing.is) refl)

pub returns-clause-ok : goal.returns-clause-ok
returns-clause-ok g c = λ output.
    idle (stand output (g.T.Listener.heard c.args.listener.now) (g.R.Replacing.tried c.args.replacer.now)) c.args.replaced.now (λ _. IsPlacedIf c.args.breaks_links c.args.deed)
    (λ before. subst (λ (x : Deed). IsPlacedIf c.args.breaks_links x nothing) (sym c.in-Put.is) refl)

pub returns-in-Replace-clause-begun : goal.returns-in-Replace-clause-begun
returns-in-Replace-clause-begun g c =
    begun_off (IsTried c.args.breaks_links c.in-Replace.new) (IsTriedIf c.args.breaks_links c.args.deed)
    (λ d is. subst (λ (x : Deed). IsTriedIf c.args.breaks_links x d) (sym c.in-Replace.is) is) (g.T.Listener.heard c.args.listener.now) (g.T.Listener.heard c.place.new.listener)
    (g.R.Replacing.tried c.args.replacer.now) (g.R.Replacing.tried c.place.new.replacer) c.place.result c.place.ensures.begun
