use Rattle.std.proofs.Common.{◌≡◌, true, rules, sym, ◌∙◌}
use Rattle.spdx_policy.proofs.Wins.{denied_first_of}
use Rattle.spdx_policy.proofs.policy.Policy.denied_among.Goals as goal

pub returns : goal.returns
returns c =
    let denied : c.are_denied.result ≡ true = search rules in
    denied_first_of c.args.self.now c.args.exceptions.now c.args.ways.now c.in_ok-first.field-0.now c.denied_by.result c.in_ok-first.ensures.value (sym c.are_denied.ensures ∙ denied) c.denied_by.ensures
