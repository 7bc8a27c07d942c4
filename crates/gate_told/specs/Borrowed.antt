-- References to values that may lie anywhere.
use Rattle.std.specs.Borrow.{Bor}

abbrev pub borrowed : {A : Type 0} → A → Bor A
borrowed x = record { ref_ptr = (0, 0); now = x }
