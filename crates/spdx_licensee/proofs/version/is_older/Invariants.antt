use Rattle.std.proofs.Common.{◌≡◌, ◌+◌, IsTrue, length}
use Rattle.spdx_requirement.specs.Versions.{is_version}
use Rattle.spdx_licensee.specs.Version.{older}
use Rattle.spdx_licensee.proofs.version.is_older.Given as goal

abbrev pub invariant-loop-left : goal.invariant-loop-left
invariant-loop-left l = record {
  left_version : IsTrue (is_version l.left);
  right_version : IsTrue (is_version l.right);
  same : older l.left l.right ≡ older l.a l.b;
}

abbrev pub decreases-loop-left : goal.decreases-loop-left
decreases-loop-left l = length l.left + length l.right
