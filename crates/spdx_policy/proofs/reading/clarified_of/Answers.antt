use Rattle.std.proofs.Common.{◌≡◌, Err, rules, ◌<◌, length, map, arith}
use Rattle.spdx_policy.proofs.Blamed.{blamed, clarified_blame}
use Rattle.spdx_policy.proofs.Eaches.{each_more}
use Rattle.spdx_policy.specs.Meant.{IsClarified}
use Rattle.spdx_policy.specs.Drawn.{clarify_row}
use Rattle.spdx_policy.specs.Shown.{scope_row}
use Rattle.spdx_policy.proofs.reading.clarified_of.Goals as goal

pub loop-index-preserved : goal.loop-index-preserved
loop-index-preserved c =
    let lt : c.loop-index.index < length c.args.clarifications.now = omega arith in
    each_more IsClarified clarify_row scope_row c.args.clarifications.now c.loop-index.index c.index-clarifications-index.result c.loop-index.scopes.items c.push.new.self.items c.in_ok-clarified_in.field-0
    lt c.index-clarifications-index.is c.in_ok-push.ensures.items c.loop-index.invariant c.in_ok-clarified_in.ensures.ok

pub returns-in_err-clarified_in-clause-err : goal.returns-in_err-clarified_in-clause-err
returns-in_err-clarified_in-clause-err c =
    let lt : c.loop-index.index < length c.args.clarifications.now = omega arith in
    let same : c.from_residual.result ≡ Err c.in_err-clarified_in.field-0.0 = search rules in
    blamed _ _ c.from_residual.result c.in_err-clarified_in.field-0.0 same c.in_err-clarified_in.ensures.err (clarified_blame c.args.clarifications.now c.loop-index.index c.index-clarifications-index.result (map scope_row c.loop-index.scopes.items) lt c.index-clarifications-index.is c.loop-index.invariant)
