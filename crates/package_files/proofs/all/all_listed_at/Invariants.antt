use Rattle.std.proofs.Common.{map, take}
use Rattle.package_files.specs.All.{AreListed, path_in}
use Rattle.package_files.proofs.all.all_listed_at.Given as goal

abbrev pub invariant-loop-path : goal.invariant-loop-path
invariant-loop-path g l = AreListed (g.S.Shelf.told l.shelf) l.wanted (map path_in (take l.path-index l.paths)) l.all.files.items l.all.left_out.items
