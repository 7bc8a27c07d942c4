-- What is kept while nodes are read from the last to the first. Only private clauses cite it.
use Rattle.std.specs.Prelude.{Bool, List, [], ◌∷◌, length, reverse}
use Rattle.gate_forms.specs.declared.reports.Leaf.{Leaf}
use Rattle.gate_forms.specs.declared.reports.Node.{Node}
use Rattle.gate_forms.specs.declared.reports.Part.{Part}
use Rattle.gate_forms.specs.declared.reports.Part.TheVariants as part
use Rattle.spdx_parser.specs.Tree as tree
use Rattle.spdx_evaluation.specs.Truth.{joined}
use Rattle.gate_told.specs.declared.tree.reading.Reading.{Reading}
use Rattle.gate_told.specs.declared.tree.reading.Waiting.{Waiting}
use Rattle.gate_told.specs.declared.tree.reading.Waiting.TheVariants.{Both, Left}
use Rattle.gate_told.specs.Shown.{is_leaf_accepted, operator_part}

-- the leaves that weren't read, the last one first; the operators that wait, the innermost first;
-- and the parts, as they are shown
pub record State : Type 0 where
  pub left : List Leaf
  pub waiting : List Waiting
  pub parts : List Node

abbrev pub state : List Leaf → List Waiting → List Node → State
state xs ws ns = record { left = xs; waiting = ws; parts = ns }

abbrev pub start : List Leaf → State
start xs = state (reverse xs) [] []

abbrev pub reading_of : Reading → State
reading_of r = state (reverse r.left.now) (reverse r.waiting.items) (reverse r.parts.items)

-- one more part, which stands in those that wait
abbrev pub part_put : Part → State → State
part_put p s = state s.left s.waiting (record { depth = length s.waiting; part = p } ∷ s.parts)

-- all of an operand was read
abbrev pub ended : List Leaf → Bool → List Waiting → List Node → State
ended xs accepted [] ns = state xs [] ns
ended xs accepted (Both o ∷ ws) ns = state xs (Left o accepted ∷ ws) ns
ended xs accepted (Left o right ∷ ws) ns =
    ended xs (joined o accepted right) ws
    (record { depth = length ws; part = operator_part o (joined o accepted right) } ∷ ns)

abbrev pub operand_read : Bool → State → State
operand_read accepted s = ended s.left accepted s.waiting s.parts

abbrev pub leaf_from : List Leaf → List Waiting → List Node → State
leaf_from [] ws ns = state [] ws ns
leaf_from (x ∷ xs) ws ns =
    operand_read (is_leaf_accepted x) (part_put (part.License x) (state xs ws ns))

abbrev pub leaf_read : State → State
leaf_read s = leaf_from s.left s.waiting s.parts

abbrev pub read_node : tree.Node → State → State
read_node (tree.Op o) s = state s.left (Both o ∷ s.waiting) s.parts
read_node (tree.Req r) s = leaf_read s

-- all of some nodes, the last one first
abbrev pub read_back : List tree.Node → State → State
read_back [] s = s
read_back (n ∷ ns) s = read_node n (read_back ns s)
