use Rattle.std.proofs.Common.{map, take}
use Rattle.std.specs.Prelude.{All}
use Rattle.file_fixes.specs.Fixing.{IsRead, text_at}
use Rattle.file_fixes.proofs.fixing.is_refused.Given as goal

abbrev pub invariant-loop-span : goal.invariant-loop-span
invariant-loop-span l = All (IsRead l.catalogue) (map (text_at l.bytes) (take l.span-index l.spans))
