use Rattle.std.proofs.Common.{◌≡◌, map, ap, ◌∙◌}
use Rattle.spdx_requirement.specs.Items.{requirement_of}
use Rattle.spdx_policy.specs.Decisions.{is_allowed, is_denied, has_free_way, has_denied_ways, ways_of}
use Rattle.spdx_policy.proofs.Wins.{allowed_exactly, denied_exactly}
use Rattle.spdx_policy.proofs.Grows.{grows_right}
use Rattle.spdx_policy.proofs.policy.Policy.decide.Goals as goal

pub returns-clause-allowed : goal.returns-clause-allowed
returns-clause-allowed c =
    let p = c.args.self.now in
    let tables = c.args.exceptions.now in
    let found = map requirement_of c.as_slice.result.now in
    let same : found ≡ ways_of p (requirement_of c.args.req.now) = ap (map requirement_of) c.as_slice.ensures.value ∙ c.in_ok-ways.ensures in
    ap is_allowed c.decide_among.ensures ∙ allowed_exactly p tables found ∙ ap (has_free_way p tables) same

pub returns-clause-denied : goal.returns-clause-denied
returns-clause-denied c =
    let p = c.args.self.now in
    let tables = c.args.exceptions.now in
    let found = map requirement_of c.as_slice.result.now in
    let same : found ≡ ways_of p (requirement_of c.args.req.now) = ap (map requirement_of) c.as_slice.ensures.value ∙ c.in_ok-ways.ensures in
    ap is_denied c.decide_among.ensures ∙ denied_exactly p tables found ∙ ap (has_denied_ways p tables) same

pub returns-clause-grows : goal.returns-clause-grows
returns-clause-grows c = grows_right c.args.self.now c.args.exceptions.now

pub returns-in_err-ways-clause-grows : goal.returns-in_err-ways-clause-grows
returns-in_err-ways-clause-grows c = grows_right c.args.self.now c.args.exceptions.now
