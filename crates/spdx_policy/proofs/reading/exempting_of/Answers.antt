use Rattle.std.proofs.Common.{◌≡◌, Err, rules, ◌<◌, length, map, arith}
use Rattle.spdx_policy.proofs.Blamed.{blamed, exempting_blame}
use Rattle.spdx_policy.proofs.Eaches.{each_more}
use Rattle.spdx_policy.specs.Meant.{IsExempting}
use Rattle.spdx_policy.specs.Drawn.{exception_row}
use Rattle.spdx_policy.specs.PolicyModel.{named_rows}
use Rattle.spdx_policy.proofs.reading.exempting_of.Goals as goal

pub loop-index-preserved : goal.loop-index-preserved
loop-index-preserved c =
    let lt : c.loop-index.index < length c.args.exceptions.now = omega arith in
    each_more (IsExempting c.args.catalogue.now c.args.replacements.now) exception_row named_rows c.args.exceptions.now c.loop-index.index c.index-exceptions-index.result c.loop-index.lists.items c.push.new.self.items c.in_ok-exempting_in.field-0
    lt c.index-exceptions-index.is c.in_ok-push.ensures.items c.loop-index.invariant c.in_ok-exempting_in.ensures.ok

pub returns-in_err-exempting_in-clause-err : goal.returns-in_err-exempting_in-clause-err
returns-in_err-exempting_in-clause-err c =
    let lt : c.loop-index.index < length c.args.exceptions.now = omega arith in
    let same : c.from_residual.result ≡ Err c.in_err-exempting_in.field-0.0 = search rules in
    blamed _ _ c.from_residual.result c.in_err-exempting_in.field-0.0 same c.in_err-exempting_in.ensures.err (exempting_blame c.args.catalogue.now c.args.replacements.now c.args.exceptions.now c.loop-index.index c.index-exceptions-index.result (map named_rows c.loop-index.lists.items) lt c.index-exceptions-index.is c.loop-index.invariant)
