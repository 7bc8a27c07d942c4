use Rattle.std.proofs.Common.{◌≡◌, ℕ, List, map, take, flat_map}
use Rattle.std.specs.Borrow.{Bor}
use Rattle.license_notice.specs.Wanted.{texts_for}
use Rattle.license_notice.proofs.texts.wanted.Given as goal

abbrev pub invariant-loop-package : goal.invariant-loop-package
invariant-loop-package l = map (λ (t : Bor (List ℕ)). t.now) l.texts.items ≡ flat_map texts_for (take l.package-index l.packages)
