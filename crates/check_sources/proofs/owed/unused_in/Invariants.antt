use Rattle.std.proofs.Common.{◌≡◌, ◌++◌, drop, map, string_bytes}
use Rattle.check_sources.specs.Owed.{those_called, unused_at, whole_of}
use Rattle.check_sources.proofs.owed.unused_in.Given as goal

-- what is told already, and what will be told of the other files, is told of all
abbrev pub invariant-loop-file : goal.invariant-loop-file
invariant-loop-file l =
    map whole_of l.wholes.items ++ map unused_at (those_called (map (λ t. t.now) l.rest) (map string_bytes (drop l.file-index l.files)))
    ≡ map unused_at (those_called (map (λ t. t.now) l.names) (map string_bytes l.files))
