use Rattle.std.proofs.Common.{◌≡◌, ◌++◌, flat_map}
use Rattle.spdx_commands.specs.Mend.{AreEndsDone, Did, left_behind, stand}
use Rattle.spdx_commands.specs.Steps.{Comes, setting_of}
use Rattle.spdx_commands.proofs.mending.paths.do_ends.Given as goal

abbrev pub invariant-loop-end : goal.invariant-loop-end
invariant-loop-end g l =
    Did (stand (g.O.Sink.told l.initial.output) (g.T.Listener.heard l.initial.listener) (g.R.Replacing.tried l.initial.replacer))
    (stand (g.O.Sink.told l.output) (g.T.Listener.heard l.listener) (g.R.Replacing.tried l.replacer))
    (Comes l.initial.so_far.replaced l.so_far.replaced l.worst (λ before. AreEndsDone (setting_of g.S.Shelf.told l.means) before l.yielded))
    × (l.so_far.left.items ≡ l.initial.so_far.left.items ++ flat_map left_behind l.yielded)
