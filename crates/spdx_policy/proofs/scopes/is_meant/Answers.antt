use Rattle.std.proofs.Common.{◌∙◌}
use Rattle.semver.proofs.EvalViews.{matches_all-views}
use Rattle.spdx_policy.proofs.scopes.is_meant.Goals as goal

pub returns-in-Some-Some : goal.returns-in-Some-Some
returns-in-Some-Some c =
    rw (c.in-Some-Some.is-0, c.in-Some-Some.is-1)
    (c.matches.ensures ∙ matches_all-views c.in-Some-Some.range.comparators.items c.in-Some-Some.version)
