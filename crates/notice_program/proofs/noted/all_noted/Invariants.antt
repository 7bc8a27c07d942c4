use Rattle.std.proofs.Common.{◌≡◌, map, take}
use Rattle.std.specs.List.{zip}
use Rattle.notice_program.specs.Noted.{noted, noted_by, owns_by}
use Rattle.notice_program.specs.Taken.{taken_by}
use Rattle.notice_program.proofs.noted.all_noted.Given as goal

abbrev pub invariant-loop-place : goal.invariant-loop-place
invariant-loop-place l = map noted_by l.all.items ≡ map noted (zip (map taken_by (take l.place l.placed)) (map owns_by l.owns))
