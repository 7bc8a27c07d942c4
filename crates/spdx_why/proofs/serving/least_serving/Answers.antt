use Rattle.std.proofs.Common.{rules, arith, ◌+◌, ◌≤◌, ◌∙◌, sym, ap, subst, ℕ, ◌<◌, List, length}
use Rattle.std.specs.List.{All}
use Rattle.selections.specs.Selection.{IsLeast, NeedsEach, NoneSuffices}
use Rattle.spdx_evaluation.specs.Postfix.{tree_in}
use Rattle.spdx_why.specs.Least.{chosen}
use Rattle.spdx_why.specs.Serving.{lists_in}
use Rattle.spdx_why.proofs.Served.{choice_least, choice_unmet, of_judge, numbers_below, numbers_cure, no_numbers_cure}
use Rattle.spdx_why.proofs.serving.least_serving.Goals as goal

pub returns-then-not-least_selection-clause-least : goal.returns-then-not-least_selection-clause-least
returns-then-not-least_selection-clause-least c =
    let j = c.in_ok-judge.ensures in
    of_judge NoneSuffices _ (tree_in c.args.nodes.now) _ c.args.accepted.now _ (lists_in c.args.serving.now) _ c.args.count j.tree j.accepted j.serving j.count
    (c.least_selection.ensures.none_suffices (search rules))

pub returns-then-not-least_selection-clause-exact : goal.returns-then-not-least_selection-clause-exact
returns-then-not-least_selection-clause-exact c =
    sym (choice_unmet (tree_in c.args.nodes.now) c.args.accepted.now (lists_in c.args.serving.now) c.args.count c.if-count-gt1024.false
    (returns-then-not-least_selection-clause-least c))

pub returns-then-not-least_selection-clause-unmet : goal.returns-then-not-least_selection-clause-unmet
returns-then-not-least_selection-clause-unmet c =
    no_numbers_cure (tree_in c.args.nodes.now) c.args.accepted.now (lists_in c.args.serving.now) c.args.count (returns-then-not-least_selection-clause-least c)

pub returns-clause-least : goal.returns-clause-least
returns-clause-least c =
    let s = c.least_selection.new.selection in
    let j = c.in_ok-judge.ensures in
    let least = c.least_selection.ensures.least (search rules) in
    let needed = c.least_selection.ensures.needed (search rules) in
    record {
      selection = s;
      least = of_judge (λ f n. IsLeast f n s) _ (tree_in c.args.nodes.now) _ c.args.accepted.now _ (lists_in c.args.serving.now) _ c.args.count j.tree j.accepted j.serving j.count least;
      needed = of_judge (λ f n. NeedsEach f s) _ (tree_in c.args.nodes.now) _ c.args.accepted.now _ (lists_in c.args.serving.now) _ c.args.count j.tree j.accepted j.serving j.count needed;
      numbers_are = c.in_ok-chosen_numbers.ensures;
    }

pub returns-clause-exact : goal.returns-clause-exact
returns-clause-exact c =
    let known = returns-clause-least c in
    ap chosen known.numbers_are
    ∙ sym (choice_least (tree_in c.args.nodes.now) c.args.accepted.now (lists_in c.args.serving.now) c.args.count known.selection c.if-count-gt1024.false known.least)

pub returns-clause-within : goal.returns-clause-within
returns-clause-within c =
    let known = returns-clause-least c in
    let each : 0 + length known.selection ≤ c.args.count = omega (arith, known.least.each_member) in
    subst (λ (z : List ℕ). All (λ k. k < c.args.count) z) (sym known.numbers_are) (numbers_below known.selection 0 c.args.count each)

pub returns-clause-cures : goal.returns-clause-cures
returns-clause-cures c =
    let known = returns-clause-least c in
    numbers_cure (tree_in c.args.nodes.now) c.args.accepted.now (lists_in c.args.serving.now) known.selection _ known.numbers_are known.least.sufficient
