use Rattle.std.proofs.Common.{◌≡◌, drop}
use Rattle.toml.specs.View.{view}
use Rattle.toml_places.specs.Paths.{value_at}
use Rattle.toml_places.proofs.path.value_at.Given as goal

abbrev pub invariant-loop-step : goal.invariant-loop-step
invariant-loop-step l = value_at (drop l.step-index l.steps) (view l.value) ≡ value_at l.steps (view l.fn.value)
