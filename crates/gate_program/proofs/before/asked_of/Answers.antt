use Rattle.std.proofs.Common.{List, ◌∷◌, ◌∙◌, suc, ap, drop, drop-cons, sym}
use Rattle.std.specs.Borrow.{Bor}
use Rattle.std.specs.Option.{option_copied}
use Rattle.std.specs.Prelude.{slice_get}
use Rattle.package_items.specs.declared.package.Package.{Package}
use Rattle.spdx_gate.specs.declared.report.Row.{Row}
use Rattle.gate_program.proofs.Asking.{all_asked, found, one_asked}
use Rattle.gate_program.proofs.before.asked_of.Goals as goal

pub loop-number-preserved : goal.loop-number-preserved
loop-number-preserved c =
    let n = c.loop-number.number in
    let p = c.index-packages-number.result in
    one_asked c.args.report.now c.args.packages.now n p (option_copied c.get.result) c.loop-number.all.items c.add_asked.new.all.items _
    c.in_ok-add_asked.ensures
    (found c.deref.result.now n c.get.result _ c.get.ensures.lookup.1 c.get.ensures.lookup.3 ∙ ap (λ (rs : List Row). slice_get rs n) c.deref.ensures.value)
    (drop-cons c.args.packages.now n p c.loop-number-test.true ∙ ap (λ (z : Bor Package). z ∷ drop (suc n) c.args.packages.now) (sym c.index-packages-number.is))
    c.loop-number.invariant

pub returns : goal.returns
returns c = all_asked c.args.report.now c.args.packages.now c.loop-number.number c.loop-number.all.items _ c.loop-number-test.false c.loop-number.invariant
