use Rattle.std.proofs.Common.{◌≡◌, List, Ok, map}
use Rattle.spdx_lexer.specs.Code.{span_of}
use Rattle.spdx_lexer.specs.Reading.{reading}
use Rattle.spdx_lexer.specs.Remainder.{items_left}
use Rattle.spdx_lexer.specs.Words.{Placed, words}
use Rattle.spdx_parser.specs.Open.{LeavesOpen}
use Rattle.spdx_parser.proofs.LastOpen.{Seeks}
use Rattle.spdx_parser.proofs.unclosed.last_open.Given as goal

abbrev pub invariant-loop-item : goal.invariant-loop-item
invariant-loop-item l =
    (read : List Placed) × (reading l.catalogue l.fn.mode 0 l.text ≡ map Ok read) × LeavesOpen (words read) l.count
    × (seen : List Placed) × Seeks read l.count seen (items_left l.item-iterator) l.depth (span_of l.place)
