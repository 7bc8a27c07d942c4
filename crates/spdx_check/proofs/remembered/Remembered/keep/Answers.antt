use Rattle.std.proofs.lemmas.List.Elements.{All-set}
use Rattle.spdx_check.specs.Known.{IsHeld}
use Rattle.spdx_check.proofs.remembered.Remembered.keep.Goals as goal

pub returns-in-Some : goal.returns-in-Some
returns-in-Some c =
    λ check file held known.
    All-set (IsHeld check file) c.has_slots.new.self.slots.items c.place_for-place.result c.fill.new.self (c.fill.ensures check file known) (c.has_slots.ensures check file held)
