use Rattle.std.proofs.Common.{◌≡◌, ℕ, List, Bor, map, take}
use Rattle.notice_texts.specs.Owed.{seen, owed}
use Rattle.notice_texts.proofs.owed.owed_files.Given as goal

abbrev pub invariant-loop-file : goal.invariant-loop-file
invariant-loop-file l =
    map seen l.owed.items
    ≡ owed (map (λ (t : Bor (List ℕ)). t.now) l.offered) (map (λ (t : Bor (List ℕ)). t.now) l.chosen) (map seen (take l.file-index l.files))
