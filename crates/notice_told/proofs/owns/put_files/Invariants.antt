use Rattle.std.proofs.Common.{◌≡◌, ◌++◌, map, take}
use Rattle.notice_told.specs.Packages.{own_in}
use Rattle.notice_texts.specs.Shared.{own}
use Rattle.notice_told.proofs.owns.put_files.Given as goal

abbrev pub invariant-loop-one : goal.invariant-loop-one
invariant-loop-one l = map own l.owns.items ≡ map own l.initial.owns.items ++ map (own_in l.of) (take l.one-index l.files)
