use Rattle.std.proofs.Common.{◌≡◌, ◌++◌, map, take}
use Rattle.std.specs.Prelude.{string_bytes}
use Rattle.notice_texts.specs.Owed.{seen}
use Rattle.owed_texts.specs.Own.{as_declared}
use Rattle.owed_texts.proofs.own.put_declared.Given as goal

abbrev pub invariant-loop-path : goal.invariant-loop-path
invariant-loop-path l = map seen l.files.items ≡ map seen l.initial.files.items ++ map as_declared (map string_bytes (take l.path-index l.declared))
