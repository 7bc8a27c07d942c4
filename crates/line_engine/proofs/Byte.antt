-- A part of what it is to cut bytes.
use Rattle.std.specs.Prelude.{ℕ, ◌==◌, if◌then◌else◌, [], ◌∷◌}
use Rattle.line_engine.specs.Lines.{Cut, onto_first}

-- a byte before bytes that are cut: a newline ends an empty line
abbrev pub before_cut : ℕ → Cut → Cut
before_cut b c = if b == 10 then record { whole = [] ∷ c.whole; rest = c.rest } else onto_first b c.whole c.rest
