use Rattle.std.proofs.Common.{◌≡◌, map, take}
use Rattle.std.specs.List.{zip}
use Rattle.notice_program.specs.Taken.{entry_of, taken, taken_by, used_by}
use Rattle.notice_program.proofs.taken.all_taken.Given as goal

abbrev pub invariant-loop-place : goal.invariant-loop-place
invariant-loop-place l = map taken_by l.all.items ≡ map taken (zip (map entry_of (take l.place l.entries)) (map used_by l.used))
