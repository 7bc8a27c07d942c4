use Rattle.std.proofs.Common.{◌≡◌, map, take, flat_map}
use Rattle.gate_program.specs.Files.{moved_package, views_in}
use Rattle.gate_program.proofs.judging.packages_of.Given as goal

abbrev pub invariant-loop-file : goal.invariant-loop-file
invariant-loop-file l = map moved_package l.packages.items ≡ flat_map views_in (take l.file-index l.files)
