use Rattle.std.proofs.Common.{◌≡◌, map, take}
use Rattle.std.specs.List.{zip}
use Rattle.choice_program.specs.Named.{shown_all}
use Rattle.notice_program.specs.Taken.{used, used_by}
use Rattle.notice_program.proofs.taken.used_of.Given as goal

abbrev pub invariant-loop-place : goal.invariant-loop-place
invariant-loop-place l = map used_by l.all.items ≡ map used (zip (shown_all (take l.place l.choices)) (shown_all l.offered))
