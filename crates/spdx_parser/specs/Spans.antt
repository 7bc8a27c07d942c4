-- Where the words of a text and the nodes of an expression stand.
use Rattle.std.specs.Prelude.{List, [], ◌∷◌, Option, Some, None, if◌then◌else◌}
use Rattle.spdx_lexer.specs.Code.{span_of}
use Rattle.spdx_lexer.specs.Words.{Span, Placed}
use Rattle.spdx_parser.specs.declared.node.ExprNode.{ExprNode}
use Rattle.spdx_parser.specs.Last.{Last, next_last, is_license}

-- the spans of the licences, from left to right, among the words that come behind such a one
abbrev pub license_spans : Last → List Placed → List Span
license_spans last [] = []
license_spans last (p ∷ read) =
    if is_license last p.0 then p.1 ∷ license_spans (next_last last p.0) read
    else license_spans (next_last last p.0) read

-- a requirement has a place
abbrev pub node_span : ExprNode → Option Span
node_span (ExprNode.Op o) = None
node_span (ExprNode.Req r) = Some (span_of r.span)

-- the spans of the requirements, from left to right
abbrev pub requirement_spans : List ExprNode → List Span
requirement_spans [] = []
requirement_spans (ExprNode.Op o ∷ nodes) = requirement_spans nodes
requirement_spans (ExprNode.Req r ∷ nodes) = span_of r.span ∷ requirement_spans nodes
