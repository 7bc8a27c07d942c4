use Rattle.std.proofs.Common.{◌≡◌, map, take, flat_map}
use Rattle.gate_program.specs.Told.{moved_named, names_in}
use Rattle.gate_program.proofs.named.named_in.Given as goal

abbrev pub invariant-loop-file : goal.invariant-loop-file
invariant-loop-file l = map moved_named l.named.items ≡ flat_map names_in (take l.file-index l.files)
