use Rattle.std.proofs.lemmas.List.Elements.{All-push, All-same}
use Rattle.spdx_check.specs.Known.{IsHeld}
use Rattle.spdx_check.proofs.remembered.empty_slots.Goals as goal

pub loop-preserved : goal.loop-preserved
loop-preserved c =
    λ check file. All-same (IsHeld check file) _ _ c.in_ok-push.ensures.items
    (All-push (IsHeld check file) c.loop.slots.items c.new.result (c.loop.invariant check file) (c.new.ensures check file))
