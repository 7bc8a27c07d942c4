-- What an expression's fields show.
use Rattle.std.specs.Prelude.{map, string_bytes}
use Rattle.spdx_parser.specs.Tree.{node_of}
use Rattle.spdx_parser.specs.Spans.{requirement_spans}
use Rattle.spdx.specs.Value.{Written}
use Rattle.spdx_evaluation.specs.Postfix.{tree_in, IsPostfix}
use Rattle.spdx.specs.declared.expression.Expression.TheInside.{Inside}

-- an expression shows its text, the tree of its nodes, and their spans
abbrev pub written : Inside → Written
written e =
    record {
      text = string_bytes e.original;
      tree = tree_in e.nodes.items;
      spans = requirement_spans e.nodes.items;
    }

-- the nodes are the postfix list of the tree
abbrev pub IsWritten : Inside → Type 0
IsWritten e = IsPostfix (map node_of e.nodes.items)
