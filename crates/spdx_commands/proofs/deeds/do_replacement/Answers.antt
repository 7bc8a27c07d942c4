use Rattle.std.proofs.Common.{◌∙◌, Bool, subst, sym}
use Rattle.spdx_commands.specs.Mend.{IsPlaced, IsPlacedAgain, IsPlacedBy, IsTried, IsTriedAgain, IsTriedBy}
use Rattle.spdx_commands.specs.Steps.{Began, setting_of}
use Rattle.spdx_commands.proofs.Breaking.{begun_off}
use Rattle.spdx_commands.specs.Replaced.{is_replaced}
use Rattle.spdx_commands.proofs.Doings.{result_known}
use Rattle.spdx_commands.proofs.deeds.do_replacement.Goals as goal

pub returns-then-has-clause-ok : goal.returns-then-has-clause-ok
returns-then-has-clause-ok g c =
    let w = setting_of g.S.Shelf.told c.args.means.now in
    let new = c.args.new in
    result_known c.args.replaced.now c.place_again.new.replaced (λ _. IsPlacedAgain w new) (λ before. IsPlacedBy (is_replaced before new.stamp) w new)
    (λ before knows d is. subst (λ (b : Bool). IsPlacedBy b w new d) (sym c.if-has.true ∙ c.has.ensures ∙ knows new.stamp) is)
    (g.T.Listener.heard c.args.listener.now) (g.T.Listener.heard c.place_again.new.listener) (g.R.Replacing.tried c.args.replacer.now) (g.R.Replacing.tried c.place_again.new.replacer)
    c.place_again.result c.place_again.ensures.ok

pub returns-else-has-clause-ok : goal.returns-else-has-clause-ok
returns-else-has-clause-ok g c =
    let w = setting_of g.S.Shelf.told c.args.means.now in
    let new = c.args.new in
    result_known c.args.replaced.now c.place.new.replaced (λ _. IsPlaced w.breaks_links new) (λ before. IsPlacedBy (is_replaced before new.stamp) w new)
    (λ before knows d is. subst (λ (b : Bool). IsPlacedBy b w new d) (sym c.if-has.false ∙ c.has.ensures ∙ knows new.stamp) is)
    (g.T.Listener.heard c.args.listener.now) (g.T.Listener.heard c.place.new.listener) (g.R.Replacing.tried c.args.replacer.now) (g.R.Replacing.tried c.place.new.replacer)
    c.place.result c.place.ensures.ok

pub returns-then-has-clause-begun : goal.returns-then-has-clause-begun
returns-then-has-clause-begun g c =
    let w = setting_of g.S.Shelf.told c.args.means.now in
    let new = c.args.new in
    begun_off (IsTriedAgain w new) (Began c.args.replaced.now (λ before. IsTriedBy (is_replaced before new.stamp) w new))
    (λ d is before knows. subst (λ (b : Bool). IsTriedBy b w new d) (sym c.if-has.true ∙ c.has.ensures ∙ knows new.stamp) is)
    (g.T.Listener.heard c.args.listener.now) (g.T.Listener.heard c.place_again.new.listener) (g.R.Replacing.tried c.args.replacer.now) (g.R.Replacing.tried c.place_again.new.replacer)
    c.place_again.result c.place_again.ensures.begun

pub returns-else-has-clause-begun : goal.returns-else-has-clause-begun
returns-else-has-clause-begun g c =
    let w = setting_of g.S.Shelf.told c.args.means.now in
    let new = c.args.new in
    begun_off (IsTried w.breaks_links new) (Began c.args.replaced.now (λ before. IsTriedBy (is_replaced before new.stamp) w new))
    (λ d is before knows. subst (λ (b : Bool). IsTriedBy b w new d) (sym c.if-has.false ∙ c.has.ensures ∙ knows new.stamp) is)
    (g.T.Listener.heard c.args.listener.now) (g.T.Listener.heard c.place.new.listener) (g.R.Replacing.tried c.args.replacer.now) (g.R.Replacing.tried c.place.new.replacer)
    c.place.result c.place.ensures.begun
