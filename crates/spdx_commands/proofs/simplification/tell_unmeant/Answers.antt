use Rattle.std.proofs.Common.{rules}
use Rattle.spdx_commands.proofs.Steps.{line_told}
use Rattle.spdx_commands.proofs.simplification.tell_unmeant.Goals as goal

pub loop-line-preserved : goal.loop-line-preserved
loop-line-preserved g c =
    line_told c.args.path.now (g.T.Listener.heard c.args.listener.now) (g.T.Listener.heard c.loop-line.listener) (g.T.Listener.heard c.hear.new.self) c.loop-line.yielded c.in-Some.line
    c.in_ok-place.place c.loop-line.invariant (search rules) c.in_ok-hear.ensures.told
