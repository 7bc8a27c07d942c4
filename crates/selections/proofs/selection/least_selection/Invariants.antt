use Rattle.std.proofs.Common.{◌≡◌, ◌+◌, ◌≤◌}
use Rattle.selections.proofs.Least.{Choosing}
use Rattle.selections.proofs.selection.least_selection.Given as goal

abbrev pub invariant-loop-i : goal.invariant-loop-i
invariant-loop-i g l = record {
  chosen : Choosing (g.S.Sufficiency.suffices l.fn.judge) (g.S.Sufficiency.count l.fn.judge) l.i l.selection;
  same_members : g.S.Sufficiency.count l.judge ≡ g.S.Sufficiency.count l.fn.judge;
  same_meaning : g.S.Sufficiency.suffices l.judge ≡ g.S.Sufficiency.suffices l.fn.judge;
  questions : g.S.Sufficiency.asked l.judge + l.i ≤ g.S.Sufficiency.asked l.fn.judge + (g.S.Sufficiency.count l.fn.judge + 1);
}
