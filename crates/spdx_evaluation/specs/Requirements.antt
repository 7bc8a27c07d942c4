-- The requirements among the nodes of an expression, and where their licences stand.
use Rattle.std.specs.Prelude.{Bool, true, false, List, [], ◌∷◌, ◌++◌, map}
use denote.Ref.{Bor}
use Rattle.spdx_requirement.specs.Items.{Requirement, requirement_of}
use Rattle.spdx_lexer.specs.Words.{Span}
use Rattle.spdx_lexer.specs.Code.{span_of}
use Rattle.spdx_parser.specs.declared.node.ExpressionReq.{ExpressionReq}
use Rattle.spdx_parser.specs.declared.node.ExprNode.{ExprNode}

-- a requirement, and where its licence stands
abbrev pub PlacedRequirement : Type 0
PlacedRequirement = Requirement × Span

abbrev pub placed_of : ExpressionReq → PlacedRequirement
placed_of r = (requirement_of r.req, span_of r.span)

-- the requirements among some nodes
abbrev pub requirements_in : List ExprNode → List ExpressionReq
requirements_in [] = []
requirements_in (ExprNode.Op o ∷ nodes) = requirements_in nodes
requirements_in (ExprNode.Req r ∷ nodes) = r ∷ requirements_in nodes

abbrev pub placed_in : List ExprNode → List PlacedRequirement
placed_in nodes = map placed_of (requirements_in nodes)

-- what references point to
abbrev pub nows : {A : Type 0} → List (Bor A) → List A
nows xs = map (λ x. x.now) xs

-- one more, if its answer is false
abbrev pub kept_if_false : {A : Type 0} → List A → A → Bool → List A
kept_if_false xs x true = xs
kept_if_false xs x false = xs ++ x ∷ []
