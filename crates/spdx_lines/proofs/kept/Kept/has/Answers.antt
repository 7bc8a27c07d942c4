use Rattle.std.proofs.lemmas.List.Elements.{All-contains}
use Rattle.spdx_parser.specs.Meaning.{IsOfRows}
use Rattle.spdx_lines.specs.Trees.{trees_in}
use Rattle.spdx_lines.proofs.Keeping.{given_at, same_there}
use Rattle.spdx_lines.proofs.kept.Kept.has.Goals as goal

pub returns-in-loop-step : goal.returns-in-loop-step
returns-in-loop-step c = λ t catalogue trees h row.
    let kept = c.in-Some-get.kept.now in
    let lookup = c.in-Some-get.ensures.lookup in
    let found = given_at (λ e. e.tree) c.deref.result.now _ kept lookup.3.0 lookup.1 in
    let there = rw c.deref.ensures.value at found in
    let same = (c.eq.ensures.of_one_catalogue catalogue (All-contains (IsOfRows catalogue) (trees_in c.args.self.now) kept.tree h.rows_are there) row).0 c.if-eq.true in
    same_there (trees_in c.args.self.now) kept.tree c.args.expression.now.tree there same
