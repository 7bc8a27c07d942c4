-- What an expression needs, by what its bytes are.
use Rattle.std.proofs.Common.{◌≡◌, sym, subst, ℕ, List, [], flat_map, IsUtf8}
use Rattle.spdx_requirement.specs.Rows.{Rows}
use Rattle.spdx_lexer.specs.declared.error.ParseError.{ParseError}
use Rattle.spdx_lexer.specs.declared.token.ParseMode.{ParseMode}
use Rattle.spdx_parser.specs.Meaning.{IsParsed, IsRefused}
use Rattle.spdx_parser.specs.declared.node.ExprNode.{ExprNode}
use Rattle.check_sources.specs.Needs.{AreNeeded, expression, refused, no_text, node_texts, with_deprecated}

pub by_nodes : (c : Rows) (m : ParseMode) (bytes : List ℕ) (nodes : List ExprNode) (names : List (List ℕ))
    → IsParsed c (with_deprecated m) bytes nodes → names ≡ flat_map node_texts nodes → AreNeeded c m bytes names
by_nodes c m bytes nodes names parsed are =
    subst (λ ns. AreNeeded c m bytes ns) (sym are) (expression nodes parsed)

pub none_refused : (c : Rows) (m : ParseMode) (bytes : List ℕ) (error : ParseError)
    → IsRefused c (with_deprecated m) bytes error → AreNeeded c m bytes []
none_refused c m bytes error is = refused error is

pub none_no_text : (c : Rows) (m : ParseMode) (bytes : List ℕ) → ¬ (IsUtf8 bytes) → AreNeeded c m bytes []
none_no_text c m bytes is = no_text is
