use Rattle.std.proofs.Common.{rules, arith, ◌≡◌, ◌<◌, false, length}
use Rattle.std.proofs.lemmas.List.{length-map}
use Rattle.spdx_minimize.specs.Trees.{tree_of_nodes, trees_in}
use Rattle.spdx_evaluation.specs.Requirements.{nows}
use Rattle.spdx_minimize.proofs.Chosen.{choice_of_nobody}
use Rattle.spdx_minimize.proofs.choice.choice_among_members.Goals as goal

pub returns-then-not-is_empty-clause-err : goal.returns-then-not-is_empty-clause-err
returns-then-not-is_empty-clause-err c =
    let ts = trees_in c.args.lists.now in
    let ms = nows c.args.members.now in
    let count : length ms ≡ length c.args.members.now = length-map c.args.members.now (λ m. m.now) in
    let none : length ms ≡ 0 = omega (arith, count, c.if-count-eq0.true) in
    let many : length ts ≡ length c.args.lists.now = length-map c.args.lists.now tree_of_nodes in
    let there : c.is_empty.result ≡ false = search rules in
    let some : 0 < length ts = grind (arith, many, there, c.is_empty.ensures) in
    choice_of_nobody ts ms none some
