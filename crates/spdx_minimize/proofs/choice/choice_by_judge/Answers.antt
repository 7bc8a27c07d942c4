use Rattle.std.proofs.Common.{rules, arith, ◌≡◌, ◌≤◌, ◌∙◌, sym, ap, length}
use Rattle.std.proofs.lemmas.List.{length-map}
use Rattle.selections.specs.Selection.{IsLeast, NeedsEach, NoneSuffices}
use Rattle.spdx_minimize.specs.Choice.{chosen}
use Rattle.spdx_minimize.specs.Trees.{trees_in}
use Rattle.spdx_evaluation.specs.Requirements.{nows}
use Rattle.spdx_minimize.proofs.Chosen.{choice_least, choice_unmet, of_judge}
use Rattle.spdx_minimize.proofs.choice.choice_by_judge.Goals as goal

pub returns-then-not-least_selection-clause-err : goal.returns-then-not-least_selection-clause-err
returns-then-not-least_selection-clause-err c =
    let ts = trees_in c.args.lists.now in
    let ms = nows c.args.members.now in
    let count : length c.args.members.now ≡ length ms = sym (length-map c.args.members.now (λ m. m.now)) in
    let few : length ms ≤ 1024 = omega (arith, count, c.requires) in
    let each = ap length c.in_ok-judge.ensures.members ∙ count in
    let none = c.least_selection.ensures.none_suffices (search rules) in
    choice_unmet ts ms few (of_judge NoneSuffices _ ts _ ms _ (ap trees_in c.in_ok-judge.ensures.lists) (ap nows c.in_ok-judge.ensures.members) each none)

pub returns-clause-ok : goal.returns-clause-ok
returns-clause-ok c =
    let ts = trees_in c.args.lists.now in
    let ms = nows c.args.members.now in
    let count : length c.args.members.now ≡ length ms = sym (length-map c.args.members.now (λ m. m.now)) in
    let few : length ms ≤ 1024 = omega (arith, count, c.requires) in
    let each = ap length c.in_ok-judge.ensures.members ∙ count in
    let s = c.least_selection.new.selection in
    let least = c.least_selection.ensures.least (search rules) in
    let moved : IsLeast _ (length ms) s = of_judge (λ f n. IsLeast f n s) _ ts _ ms _ (ap trees_in c.in_ok-judge.ensures.lists) (ap nows c.in_ok-judge.ensures.members) each least in
    choice_least ts ms s few moved ∙ ap chosen (sym c.in_ok-chosen_requirements.ensures)

pub returns-clause-least : goal.returns-clause-least
returns-clause-least c =
    let ts = trees_in c.args.lists.now in
    let ms = nows c.args.members.now in
    let count : length c.args.members.now ≡ length ms = sym (length-map c.args.members.now (λ m. m.now)) in
    let each = ap length c.in_ok-judge.ensures.members ∙ count in
    let s = c.least_selection.new.selection in
    let least = c.least_selection.ensures.least (search rules) in
    let needed = c.least_selection.ensures.needed (search rules) in
    let trees = ap trees_in c.in_ok-judge.ensures.lists in
    let members = ap nows c.in_ok-judge.ensures.members in
    record {
      selection = s;
      least = of_judge (λ f n. IsLeast f n s) _ ts _ ms _ trees members each least;
      needed = of_judge (λ f n. NeedsEach f s) _ ts _ ms _ trees members each needed;
      requirements = c.in_ok-chosen_requirements.ensures;
    }
