use Rattle.std.proofs.Common.{◌≡◌, map, take}
use Rattle.notice_told.specs.Page.{noted}
use Rattle.notice_told.proofs.page.noted_of.Given as goal

abbrev pub invariant-loop-one : goal.invariant-loop-one
invariant-loop-one l = l.all.items ≡ map noted (take l.one-index l.packages)
