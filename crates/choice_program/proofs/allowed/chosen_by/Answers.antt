use Rattle.std.proofs.Common.{List, map, subst, sym}
use Rattle.gate_program.specs.Asked.{lent}
use Rattle.package_choices.specs.Passes.{EachPasses}
use Rattle.choice_program.specs.declared.picked.Picked.{Picked}
use Rattle.choice_program.specs.Picked.{offers_in, pick_of}
use Rattle.choice_program.proofs.Laws.{each_passes}
use Rattle.choice_program.proofs.allowed.chosen_by.Goals as goal

pub chosen_of-requires : goal.chosen_of-requires
chosen_of-requires c =
    let policy = c.args.policy.now in
    let listed = c.args.catalogue.now in
    subst (λ (own : List Picked). EachPasses (offers_in (map pick_of own))) (sym c.deref.ensures.value)
    (each_passes listed policy (map lent c.args.packages.now) (map pick_of c.in_ok-own.own.items) (c.in_ok-own.ensures.ok listed policy c.in_ok-report.ensures))
