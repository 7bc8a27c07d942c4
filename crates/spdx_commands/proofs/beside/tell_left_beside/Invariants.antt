use Rattle.std.proofs.Common.{map, take}
use Rattle.check_files.specs.Told.{Tells}
use Rattle.fix_program.specs.Runs.{path_in}
use Rattle.spdx_commands.proofs.Besides.{AreBesideSoFar}
use Rattle.spdx_commands.proofs.beside.tell_left_beside.Given as goal

abbrev pub invariant-loop-path : goal.invariant-loop-path
invariant-loop-path g l =
    Tells (g.T.Listener.heard l.initial.listener) (g.T.Listener.heard l.listener) (AreBesideSoFar (g.S.Shelf.told l.shelf) l.folders (map path_in (take l.path-index l.paths)))
