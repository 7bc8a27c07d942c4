use Rattle.std.proofs.Common.{◌≡◌, ◌++◌, map, drop}
use Rattle.std.specs.Option.{option_copied}
use Rattle.changes_program.specs.Said.{said_row}
use Rattle.changes_program.specs.Tellings.{moved_telling, tellings_from, tellings_of}
use Rattle.changes_program.proofs.tellings.tellings_of.Given as goal

abbrev pub invariant-loop-number : goal.invariant-loop-number
invariant-loop-number l =
    map moved_telling l.tellings.items ++ tellings_from (option_copied l.report) l.number (map said_row (drop l.number l.said))
    ≡ tellings_of (option_copied l.report) (map said_row l.said)
