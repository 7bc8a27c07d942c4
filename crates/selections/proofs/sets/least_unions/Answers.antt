use Rattle.std.proofs.Common.{ap, sym, ◌∙◌, fold, ℕ, List}
use Rattle.std.specs.Global.{Vec}
use Rattle.std.proofs.lemmas.List.{drop_all}
use Rattle.selections.specs.Sets.{with_set, unions, sets_in}
use Rattle.selections.proofs.sets.least_unions.Goals as goal

pub returns : goal.returns
returns c =
    ap (λ (z : List (Vec ℕ)). fold with_set (sets_in c.loop-set.sets.items) (unions (sets_in z) (sets_in c.args.right.now))) (sym (drop_all c.loop-set.set-index c.args.left.now c.loop-set-test.false)) ∙ c.loop-set.invariant
