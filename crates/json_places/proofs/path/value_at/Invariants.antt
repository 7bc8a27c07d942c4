use Rattle.std.proofs.Common.{◌≡◌, drop}
use Rattle.serde_json.specs.View.{view}
use Rattle.json_places.specs.Paths.{value_at}
use Rattle.json_places.proofs.path.value_at.Given as goal

abbrev pub invariant-loop-step : goal.invariant-loop-step
invariant-loop-step l = value_at (drop l.step-index l.steps) (view l.value) ≡ value_at l.steps (view l.fn.value)
