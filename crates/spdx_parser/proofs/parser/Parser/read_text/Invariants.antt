use Rattle.std.proofs.Common.{◌≡◌, List}
use Rattle.spdx_lexer.specs.Words.{Placed, words}
use Rattle.spdx_lexer.specs.Remainder.{items_left}
use Rattle.spdx_parser.specs.Last.{Due}
use Rattle.spdx_parser.specs.Heard.{Along}
use Rattle.spdx_parser.specs.State.{State}
use Rattle.spdx_parser.proofs.Kept.{unplaced}
use Rattle.spdx_parser.proofs.Loop.{Reads}
use Rattle.spdx_parser.proofs.parser.Parser.read_text.Given as goal

abbrev pub invariant-loop-item : goal.invariant-loop-item
invariant-loop-item g l = (read : List Placed) × (s : State) × Reads l.catalogue l.mode l.text read (items_left l.item-iterator) l.is_empty s × (unplaced s ≡ l.self) × Along g.L.Listener.Hears l.initial.listener Due (words read) l.listener
