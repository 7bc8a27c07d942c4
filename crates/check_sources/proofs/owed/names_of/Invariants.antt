use Rattle.std.proofs.Common.{◌≡◌, map, string_bytes, take}
use Rattle.check_sources.specs.Owed.{whole_names}
use Rattle.check_sources.proofs.owed.names_of.Given as goal

abbrev pub invariant-loop-file : goal.invariant-loop-file
invariant-loop-file l = map (λ t. t.now) l.names.items ≡ whole_names (map string_bytes (take l.file-index l.files))
