use Rattle.std.proofs.Common.{◌≡◌, ℕ, List, ◌++◌, length}
use Rattle.line_engine.specs.Lines.{lines_of}
use Rattle.spdx_calls.specs.Licensees.{AreNamed}
use Rattle.spdx_calls.proofs.licensees.read_licensees.Given as goal

-- the lines so far name the licensees so far
abbrev pub invariant-loop-line : goal.invariant-loop-line
invariant-loop-line l = (done : List (List ℕ)) × (lines_of l.names ≡ done ++ lines_of l.rest) × AreNamed l.catalogue done l.licensees.items

abbrev pub decreases-loop-line : goal.decreases-loop-line
decreases-loop-line l = length l.rest
