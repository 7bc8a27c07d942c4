use Rattle.std.proofs.Common.{map, take}
use Rattle.std.specs.Prelude.{string_bytes}
use Rattle.owed_texts.specs.LicenseFiles.{AreDeclared}
use Rattle.owed_texts.proofs.license_files.declared_in.Given as goal

abbrev pub invariant-loop-path : goal.invariant-loop-path
invariant-loop-path g l = AreDeclared (g.S.Shelf.told l.shelf) l.how l.folder (map string_bytes (take l.path-index l.paths)) (map string_bytes l.declared.items)
