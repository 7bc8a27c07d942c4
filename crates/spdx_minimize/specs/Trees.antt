-- The trees of the expressions that the minimiser is given.
use Rattle.std.specs.Prelude.{List, map}
use Rattle.spdx_parser.specs.Tree.{Tree}
use Rattle.spdx_evaluation.specs.Postfix.{tree_in}
use Rattle.spdx_minimize.specs.declared.nodes.TreeNodes.{TreeNodes}

abbrev pub tree_of_nodes : TreeNodes → Tree
tree_of_nodes list = tree_in list.nodes.now

abbrev pub trees_in : List TreeNodes → List Tree
trees_in lists = map tree_of_nodes lists
