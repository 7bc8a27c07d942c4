use Rattle.std.proofs.Common.{◌≡◌, ◌+◌, drop}
use Rattle.spdx_lines.specs.Program.{texts_of, licensees_from}
use Rattle.spdx_lines.specs.Found.{found}
use Rattle.spdx_lines.proofs.Licensees.{behind}
use Rattle.spdx_lines.proofs.program.read_licensees.Given as goal

abbrev pub invariant-loop-place : goal.invariant-loop-place
invariant-loop-place l =
    licensees_from found l.catalogue 1 (texts_of l.words) ≡ behind l.licensees.items (licensees_from found l.catalogue (l.place + 1) (texts_of (drop l.place l.words)))
