use Rattle.std.proofs.Common.{◌≤◌, length, take, drop}
use Rattle.file_fixes.specs.Mending.{marked, AreInOrder}
use Rattle.file_fixes.proofs.Progress.{MendsSoFar}
use Rattle.file_fixes.proofs.mending.fix_all.Given as goal

abbrev pub invariant-loop-span : goal.invariant-loop-span
invariant-loop-span l = record {
  done : MendsSoFar l.catalogue (marked (take l.at l.bytes) (take l.span-index l.spans)) (marked l.mended.bytes.items l.mended.spans.items) l.mended.count;
  within : l.at ≤ length l.bytes;
  ordered : AreInOrder 0 l.spans (length l.bytes) → AreInOrder l.at (drop l.span-index l.spans) (length l.bytes);
  count : l.mended.count ≤ l.span-index;
}
