use Rattle.std.proofs.Common.{[], get_or, map, refl, drop-cons, ◌∙◌}
use Rattle.std.specs.Option.{option_copied}
use Rattle.gate_told.specs.Texts.{telling_in}
use Rattle.gate_told.proofs.OwnRows.{all_in, found, one_in, unnamed}
use Rattle.gate_told.proofs.Scopes.{none_told}
use Rattle.gate_told.proofs.packages.told_packages.Goals as goal

pub loop-number-init : goal.loop-number-init
loop-number-init c = ([], refl, c.new-told.ensures.items ∙ none_told c.args.scope)

pub loop-number-preserved : goal.loop-number-preserved
loop-number-preserved c =
    let n = c.loop-number.number in
    one_in c.args.scope c.args.policy.now (map telling_in c.args.breakdowns.now) c.args.rows.now c.args.known c.args.packages.now n (get_or c.args.packages.now n unnamed)
    c.state_at-baseline.result (option_copied c.get.result) c.loop-number.told.items c.add_told.new.told.items
    c.in_ok-add_told.ensures c.state_at-baseline.ensures (found c.args.rows.now n c.get.result _ c.get.ensures.lookup.1 c.get.ensures.lookup.3)
    (drop-cons c.args.packages.now n unnamed c.loop-number-test.true) c.loop-number.invariant

pub returns : goal.returns
returns c =
    all_in c.args.scope c.args.policy.now (map telling_in c.args.breakdowns.now) c.args.rows.now c.args.known c.args.packages.now c.loop-number.number c.loop-number.told.items
    c.loop-number-test.false c.loop-number.invariant
