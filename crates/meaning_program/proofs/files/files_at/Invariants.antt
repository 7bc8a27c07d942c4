use Rattle.std.proofs.Common.{map, take}
use Rattle.std.specs.List.{AllZip}
use Rattle.meaning_program.specs.Files.{IsEndOf, path_in}
use Rattle.meaning_program.proofs.files.files_at.Given as goal

abbrev pub invariant-loop-path : goal.invariant-loop-path
invariant-loop-path g l = AllZip (IsEndOf (g.S.Shelf.told l.shelf) l.catalogue l.is_lax) (map path_in (take l.path-index l.paths)) l.files.items
