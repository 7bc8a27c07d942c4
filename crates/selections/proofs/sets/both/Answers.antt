use Rattle.std.proofs.Common.{ap, sym, subst, ◌∙◌}
use Rattle.selections.specs.Sets.{sets_in, met_by, AreApart}
use Rattle.selections.proofs.Means.{both_mean}
use Rattle.selections.proofs.Apart.{both_apart}
use Rattle.selections.proofs.sets.both.Goals as goal

pub returns-clause-means : goal.returns-clause-means
returns-clause-means c p = ap (met_by p) c.in_ok-sets.ensures ∙ both_mean p (sets_in c.args.left.items) (sets_in c.args.right.items)

pub returns-clause-apart : goal.returns-clause-apart
returns-clause-apart c = subst AreApart (sym c.in_ok-sets.ensures) (both_apart (sets_in c.args.left.items) (sets_in c.args.right.items))
