-- How the normal text is written: from the last node to the first, the last piece first.
use Rattle.std.specs.Prelude.{ℕ, Bool, false, List, [], ◌∷◌, ◌++◌, Option, Some, None, slice_get, codes, if◌then◌else◌}
use Rattle.spdx_requirement.specs.Texts.{requirement_text}
use Rattle.spdx_parser.specs.declared.node.ExprNode.{ExprNode}
use Rattle.spdx_parser.specs.Tree.{Node, Op, Req, node_of}
use Rattle.spdx_canonical.specs.declared.piece.Place.{Place}
use Rattle.spdx_canonical.specs.declared.piece.Piece.{Piece}
use Rattle.spdx_canonical.specs.declared.piece.Task.{Task}
use Rattle.spdx_canonical.specs.Normal.{left_in_parens, right_in_parens, operator_text}

abbrev pub node_text : Node → List ℕ
node_text (Req r) = requirement_text r
node_text (Op o) = operator_text o

-- the text of a node, if there is one
abbrev pub text_of_option : Option ExprNode → List ℕ
text_of_option None = []
text_of_option (Some node) = node_text (node_of node)

abbrev pub piece_text : List ExprNode → Piece → List ℕ
piece_text nodes (Piece.Node place) = text_of_option (slice_get nodes place)
piece_text nodes Piece.Open = codes "("
piece_text nodes Piece.Close = codes ")"

-- the text of pieces of which the last comes first
abbrev pub pieces_text : List ExprNode → List Piece → List ℕ
pieces_text nodes [] = []
pieces_text nodes (p ∷ ps) = pieces_text nodes ps ++ piece_text nodes p

-- whether an operand with this root has parentheses there
abbrev pub needs_parens : Place → Node → Bool
needs_parens Place.Whole n = false
needs_parens (Place.Left o) n = left_in_parens o n
needs_parens (Place.Right o) n = right_in_parens o n

-- What the node at `at`, the root of an operand, adds to the pieces, and what it leaves to be done,
-- the last first: a requirement is a piece; the parts of an operator wait, but for a closing
-- parenthesis.
abbrev pub pieces_for : Place → ℕ → Node → List Piece
pieces_for place at (Req r) = Piece.Node at ∷ []
pieces_for place at (Op o) = if needs_parens place (Op o) then Piece.Close ∷ [] else []

abbrev pub tasks_for : Place → ℕ → Node → List Task
tasks_for place at (Req r) = []
tasks_for place at (Op o) =
    (if needs_parens place (Op o) then Task.Write Piece.Open ∷ [] else [])
    ++ (Task.Operand (Place.Left o) ∷ Task.Write (Piece.Node at) ∷ Task.Operand (Place.Right o) ∷
    [])
