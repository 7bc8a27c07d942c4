use Rattle.std.proofs.Common.{sym, ◌∙◌}
use Rattle.std.specs.List.{after_first}
use Rattle.spdx_licensee.proofs.Marks.{is_dot}
use Rattle.spdx_licensee.proofs.Pieces.{front_digits, rest_version, older_by_first, older_by_rest}
use Rattle.spdx_licensee.proofs.version.is_older.Goals as goal

pub compare_numbers-requires-clause-a_digits : goal.compare_numbers-requires-clause-a_digits
compare_numbers-requires-clause-a_digits c = rw c.split_at_dot.ensures.front (front_digits c.loop-left.left.now c.loop-left.invariant.left_version)

pub compare_numbers-requires-clause-b_digits : goal.compare_numbers-requires-clause-b_digits
compare_numbers-requires-clause-b_digits c = rw c.split_at_dot-in-loop-left.ensures.front (front_digits c.loop-left.right.now c.loop-left.invariant.right_version)

pub returns-in-Less : goal.returns-in-Less
returns-in-Less c =
    let front = c.split_at_dot in
    let other = c.split_at_dot-in-loop-left in
    sym (older_by_first c.loop-left.left.now c.loop-left.right.now front.result.0.now other.result.0.now _ front.ensures.front other.ensures.front c.in-Less.ensures)
    ∙ c.loop-left.invariant.same

pub returns-in-Greater : goal.returns-in-Greater
returns-in-Greater c =
    let front = c.split_at_dot in
    let other = c.split_at_dot-in-loop-left in
    sym (older_by_first c.loop-left.left.now c.loop-left.right.now front.result.0.now other.result.0.now _ front.ensures.front other.ensures.front c.in-Greater.ensures)
    ∙ c.loop-left.invariant.same

pub loop-left-preserved : goal.loop-left-preserved
loop-left-preserved c =
    let front = c.split_at_dot in
    let other = c.split_at_dot-in-loop-left in
    let l = c.loop-left.left.now in
    let r = c.loop-left.right.now in
    record {
      left_version = rw front.ensures.rest (rest_version l c.loop-left.invariant.left_version);
      right_version = rw other.ensures.rest (rest_version r c.loop-left.invariant.right_version);
      same = rw (front.ensures.rest, other.ensures.rest) (older_by_rest (after_first is_dot l) (after_first is_dot r)
          ∙ sym (older_by_first l r front.result.0.now other.result.0.now _ front.ensures.front other.ensures.front c.in-Equal.ensures)
          ∙ c.loop-left.invariant.same);
    }
