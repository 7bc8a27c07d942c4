-- The tree whose postfix list some nodes are.
use Rattle.std.specs.Prelude.{◌≡◌, List, [], ◌∷◌, None, map}
use Rattle.spdx_requirement.specs.Items.{referred}
use Rattle.spdx_parser.specs.declared.node.Operator.{Operator}
use Rattle.spdx_parser.specs.declared.node.ExprNode.{ExprNode}
use Rattle.spdx_parser.specs.Tree.{Tree, Leaf, Join, Node, Op, Req, postfix, node_of}

-- the two newest trees become one
abbrev pub join_trees : Operator → List Tree → List Tree
join_trees o (right ∷ left ∷ rest) = Join o left right ∷ rest
join_trees o (t ∷ []) = t ∷ []
join_trees o [] = []

-- the trees that nodes leave, read from left to right, the newest first
abbrev pub trees_behind : List Node → List Tree → List Tree
trees_behind [] ts = ts
trees_behind (Req r ∷ ns) ts = trees_behind ns (Leaf r ∷ ts)
trees_behind (Op o ∷ ns) ts = trees_behind ns (join_trees o ts)

-- the newest; a reference without a name where there is none, which no postfix list leaves
abbrev pub newest : List Tree → Tree
newest [] =
    Leaf (record { license = referred (record { document = None; name = [] }); addition = None })
newest (t ∷ ts) = t

-- the tree whose postfix list the nodes are, if they are any
abbrev pub tree_of : List Node → Tree
tree_of ns = newest (trees_behind ns [])

-- the nodes are the postfix list of a tree
abbrev pub IsPostfix : List Node → Type 0
IsPostfix ns = ns ≡ postfix (tree_of ns)

-- the same of nodes with places
abbrev pub tree_in : List ExprNode → Tree
tree_in nodes = tree_of (map node_of nodes)
