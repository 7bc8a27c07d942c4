-- A tree is given back by its postfix list, and so has its code.
use Rattle.std.specs.Prelude.{List}
use Rattle.std.specs.Coded.{Coded, code_by, coded_list}
use Rattle.spdx_parser.specs.Tree.{Tree, Node, postfix}
use Rattle.spdx_evaluation.specs.Postfix.{tree_of}
use Rattle.spdx_evaluation.specs.PostfixLaws.{tree_of_postfix}

abbrev pub tree_code : Coded Node → Coded Tree
tree_code c = code_by (List Node) (coded_list c) postfix tree_of tree_of_postfix
