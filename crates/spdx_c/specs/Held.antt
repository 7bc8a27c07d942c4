-- Whether a catalogue is held, and which.
use Rattle.std.specs.Prelude.{Option, None, Some}

abbrev pub IsHeld : {A : Type 0} → Option A → Type 0
IsHeld None = ⊥
IsHeld (Some x) = Unit {0}
