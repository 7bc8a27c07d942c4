use Rattle.std.proofs.Common.{◌≡◌, ℕ, List, ◌++◌, map, not, take}
use Rattle.std.specs.Borrow.{Bor}
use Rattle.std.specs.Prelude.{filter}
use Rattle.notice_told.specs.Lacks.{has_among, lack, seen_lack}
use Rattle.notice_told.proofs.lacks.put_lacking.Given as goal

abbrev pub invariant-loop-name : goal.invariant-loop-name
invariant-loop-name l =
    map seen_lack l.lacks.items
    ≡ map seen_lack l.initial.lacks.items
    ++ map (lack l.of) (filter (λ name. not (has_among l.of.files.now (map (λ (t : Bor (List ℕ)). t.now) l.offered) name)) (map (λ (t : Bor (List ℕ)). t.now) (take l.name-index l.chosen)))
