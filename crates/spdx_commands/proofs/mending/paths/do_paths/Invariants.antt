use Rattle.std.proofs.Common.{◌≡◌, []}
use Rattle.spdx_commands.specs.Mend.{Did, stand}
use Rattle.spdx_commands.specs.Steps.{setting_of}
use Rattle.spdx_commands.proofs.Doings.{AreSoFar}
use Rattle.spdx_commands.proofs.mending.paths.do_paths.Given as goal

abbrev pub invariant-loop-path : goal.invariant-loop-path
invariant-loop-path g l =
    Did (stand (g.O.Sink.told l.initial.output) (g.T.Listener.heard l.initial.listener) (g.R.Replacing.tried l.initial.replacer))
    (stand (g.O.Sink.told l.output) (g.T.Listener.heard l.listener) (g.R.Replacing.tried l.replacer))
    (AreSoFar (setting_of g.S.Shelf.told l.means) l.so_far.replaced l.worst l.yielded)
    × (l.so_far.left.items ≡ [])
