-- What a parser's fields show.
use Rattle.std.specs.Prelude.{map, option_map}
use Rattle.spdx_lexer.specs.Code.{span_of}
use Rattle.spdx_parser.specs.declared.parser.Parser.TheInside.{Inside}
use Rattle.spdx_parser.specs.Nodes.{placed_node}
use Rattle.spdx_parser.specs.Code.{last_in, name_license}
use Rattle.spdx_parser.specs.Kept.{at_no_place}
use Rattle.spdx_parser.specs.State.{State}

abbrev pub state_of : Inside → State
state_of p = record {
  last = last_in p.last;
  license = option_map name_license p.license;
  place = span_of p.place;
  nodes = map placed_node p.nodes.items;
  frame = p.frame;
  opened = map at_no_place p.opened;
}
