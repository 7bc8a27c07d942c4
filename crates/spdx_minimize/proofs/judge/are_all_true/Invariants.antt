use Rattle.std.proofs.Common.{◌≡◌, ◌+◌, drop, length, map}
use Rattle.std.specs.List.{flat_map}
use Rattle.spdx_parser.specs.Tree.{leaves}
use Rattle.spdx_minimize.specs.Trees.{trees_in}
use Rattle.spdx_minimize.specs.Places.{any_at, met_by, all_true}
use Rattle.spdx_minimize.proofs.judge.are_all_true.Given as goal

abbrev pub invariant-loop-list : goal.invariant-loop-list
invariant-loop-list l = record {
  left : l.first + length (flat_map leaves (trees_in (drop l.list-index l.lists))) ≡ length l.meeting.parts.items;
  answer :
      all_true (trees_in (drop l.list-index l.lists)) (drop l.first (map (any_at l.selection) (met_by l.meeting)))
      ≡ all_true (trees_in l.lists) (map (any_at l.selection) (met_by l.meeting));
  room : l.truths.room ≡ l.fn.truths.room;
}
