use Rattle.std.proofs.Common.{◌≡◌, ◌++◌, map, take}
use Rattle.std.specs.Prelude.{flat_map, string_bytes}
use Rattle.notice_texts.specs.Owed.{seen}
use Rattle.owed_texts.specs.Own.{unless_declared}
use Rattle.owed_texts.proofs.own.put_others.Given as goal

abbrev pub invariant-loop-name : goal.invariant-loop-name
invariant-loop-name l = map seen l.files.items ≡ map seen l.initial.files.items ++ flat_map (unless_declared (map string_bytes l.declared)) (map string_bytes (take l.name-index l.names))
