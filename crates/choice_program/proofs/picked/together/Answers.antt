use Rattle.std.proofs.Common.{map, subst, sym}
use Rattle.choice_program.specs.Picked.{AreTogether, offers_in, parts_from, pick_of}
use Rattle.choice_program.proofs.Joining.{joint_parts}
use Rattle.choice_program.proofs.picked.together.Goals as goal

pub returns-clause-ok : goal.returns-clause-ok
returns-clause-ok c =
    let own = map pick_of c.args.own.now in
    let remedies = c.deref.result.now in
    record {
      parts = parts_from remedies 0 own;
      are_parts = joint_parts own remedies (subst (AreTogether (offers_in own)) (sym c.deref.ensures.value) c.in_ok-remedies.ensures.ok);
      named_are = c.in_ok-chosen.ensures;
    }
