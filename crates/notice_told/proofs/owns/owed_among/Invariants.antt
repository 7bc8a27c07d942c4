use Rattle.std.proofs.Common.{◌≡◌, ℕ, List, map, take}
use Rattle.std.specs.Borrow.{Bor}
use Rattle.std.specs.Prelude.{filter}
use Rattle.notice_told.specs.declared.packages.OwnFile.{OwnFile}
use Rattle.notice_texts.specs.Owed.{is_owed, seen}
use Rattle.notice_told.proofs.owns.owed_among.Given as goal

abbrev pub invariant-loop-one : goal.invariant-loop-one
invariant-loop-one l =
    l.owed.items ≡ filter (λ (f : OwnFile). is_owed (map (λ (t : Bor (List ℕ)). t.now) l.offered) (map (λ (t : Bor (List ℕ)). t.now) l.chosen) (seen f.file)) (take l.one-index l.files)
