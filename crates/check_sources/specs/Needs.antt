-- Which license texts an expression needs.
use Rattle.std.specs.Prelude.{ℕ, ◌==◌, Bool, true, not, List, [], filter, flat_map, IsUtf8}
use Rattle.std.specs.List.{list_any}
use Rattle.spdx_requirement.specs.Items.{requirement_of}
use Rattle.spdx_requirement.specs.Rows.{Rows}
use Rattle.spdx_lexer.specs.declared.error.ParseError.{ParseError}
use Rattle.spdx_lexer.specs.declared.token.ParseMode.{ParseMode}
use Rattle.spdx_parser.specs.Meaning.{IsParsed, IsRefused}
use Rattle.spdx_parser.specs.declared.node.ExprNode.{ExprNode}
use Rattle.spdx_parser.specs.declared.node.ExprNode.TheVariants as node
use Rattle.spdx_licensee.specs.Wanted.{wanted}

abbrev pub has_colon : List ℕ → Bool
has_colon name = list_any (λ b. b == 58) name

-- no document stands before the name, in which its text would be
abbrev pub is_own : List ℕ → Bool
is_own name = not (has_colon name)

-- what a requirement among the nodes needs, of its license and of its addition
abbrev pub node_texts : ExprNode → List (List ℕ)
node_texts (node.Op o) = []
node_texts (node.Req r) = filter is_own (wanted (requirement_of r.req))

-- deprecated names have texts too
abbrev pub with_deprecated : ParseMode → ParseMode
with_deprecated m = record m { allow_deprecated = true }

-- what the expression of these bytes needs; bytes that are no expression need nothing
pub data AreNeeded (c : Rows) (m : ParseMode) (bytes : List ℕ) : List (List ℕ) → Type 0 where
  expression : (nodes : List ExprNode) → IsParsed c (with_deprecated m) bytes nodes →
      AreNeeded c m bytes (flat_map node_texts nodes)
  refused : (error : ParseError) → IsRefused c (with_deprecated m) bytes error →
      AreNeeded c m bytes []
  no_text : ¬ (IsUtf8 bytes) → AreNeeded c m bytes []
