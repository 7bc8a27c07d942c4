-- What a text means, and the nodes that say so.
use Rattle.spdx_lexer.specs.Words.{Placed, words}
use Rattle.std.specs.Prelude.{◌≡◌, ℕ, List, Option, Some, None, Ok, map, slice_get}
use Rattle.spdx_requirement.specs.Rows.{Rows}
use Rattle.spdx_requirement.specs.Items.{LicenseTerm, listed, referred, Addition, excepted, added}
use Rattle.spdx_lexer.specs.declared.token.ParseMode.{ParseMode}
use Rattle.spdx_lexer.specs.declared.error.ParseError.{ParseError}
use Rattle.spdx_lexer.specs.Code.{span_of}
use Rattle.spdx_lexer.specs.Faults.{fault_of}
use Rattle.spdx_lexer.specs.Reading.{reading}
use Rattle.spdx_parser.specs.declared.node.ExprNode.{ExprNode}
use Rattle.spdx_parser.specs.Tree.{Tree, Leaf, Join, postfix, node_of}
use Rattle.spdx_parser.specs.Grammar.{IsTheTree}
use Rattle.spdx_parser.specs.Last.{Due}
use Rattle.spdx_parser.specs.Spans.{license_spans, requirement_spans}
use Rattle.spdx_parser.specs.Faults.{IsFaultOf, HasNoTree}

-- a listed licence has a row of the catalogue, which stands at its own index
abbrev pub IsLicenseOf : Rows → LicenseTerm → Type 0
IsLicenseOf c (listed r mark) = slice_get c.licenses r.index ≡ Some r
IsLicenseOf c (referred r) = Unit {0}

-- and so has a listed exception
abbrev pub IsAdditionOf : Rows → Option Addition → Type 0
IsAdditionOf c None = Unit {0}
IsAdditionOf c (Some (excepted r)) = slice_get c.exceptions r.index ≡ Some r
IsAdditionOf c (Some (added r)) = Unit {0}

-- every id in the tree has a row of the catalogue
abbrev pub IsOfRows : Rows → Tree → Type 0
IsOfRows c (Leaf r) = IsLicenseOf c r.license × IsAdditionOf c r.addition
IsOfRows c (Join o l r) = IsOfRows c l × IsOfRows c r

-- the text reads without a fault, its words mean the tree and no other, and the nodes are the
-- tree's postfix form, of which each requirement has the place of its licence's word
pub record IsParsed (c : Rows) (m : ParseMode) (text : List ℕ)
    (nodes : List ExprNode) : Type 0 where
  pub read : List Placed
  pub tree : Tree
  pub reads : reading c m 0 text ≡ map Ok read
  pub meant : IsTheTree c m (words read) tree
  pub nodes_are : map node_of nodes ≡ postfix tree
  pub spans_are : requirement_spans nodes ≡ license_spans Due read
  pub rows_are : IsOfRows c tree

-- the text has no tree, and the error is its fault, with the place and the text
pub record IsRefused (c : Rows) (m : ParseMode) (text : List ℕ) (error : ParseError) : Type 0 where
  pub no_tree : HasNoTree c m text
  pub fault_is : IsFaultOf c m text (fault_of error.reason) (span_of error.span)
  pub text_is : error.original.now ≡ text
