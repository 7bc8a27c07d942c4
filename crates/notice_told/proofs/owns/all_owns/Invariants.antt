use Rattle.std.proofs.Common.{◌≡◌, map, take, flat_map}
use Rattle.notice_told.specs.Packages.{owns_of}
use Rattle.notice_texts.specs.Shared.{own}
use Rattle.notice_told.proofs.owns.all_owns.Given as goal

abbrev pub invariant-loop-one : goal.invariant-loop-one
invariant-loop-one l = map own l.owns.items ≡ flat_map owns_of (take l.one-index l.packages)
