use Rattle.std.proofs.Common.{◌≡◌, map, length, find, get_or, arith}
use Rattle.std.proofs.lemmas.Grind.{common_steps}
use Rattle.spdx_requirement.specs.Rows.{row_of, imprecise_of}
use Rattle.spdx_hints.specs.Borrowed.{nows}
use Rattle.spdx_hints.specs.Hints.{rules_asked, given_by, gives}
use Rattle.spdx_hints.specs.declared.rule.Rule.TheVariants.{SameWords}
use Rattle.spdx_hints.proofs.Asked.{find_skips}
use Rattle.spdx_hints.proofs.ByRule.{silent}
use Rattle.spdx_hints.proofs.hint.first_given.Goals as goal

pub loop-rule-preserved : goal.loop-rule-preserved
loop-rule-preserved c =
    let none : length (map row_of (nows c.in_ok-rows.rows.items)) ≡ 0 = grind (arith, common_steps) in
    let found = map imprecise_of (nows c.args.found.now) in
    let rows = map row_of c.args.licenses.now in
    let test = gives found c.args.phrase.now rows in
    let rule = get_or rules_asked c.loop-rule.rule-index SameWords in
    find_skips test rules_asked c.loop-rule.rule-index SameWords (find test rules_asked) c.loop-rule-test.true
    (silent (map row_of (nows c.in_ok-rows.rows.items)) (given_by found c.args.phrase.now rows rule) c.in_ok-rows.ensures none) c.loop-rule.invariant
