use Rattle.std.proofs.Common.{◌≡◌, ◌∙◌, sym, ap, List, [], ◌∷◌, ◌++◌, ℕ, ◌+◌, ◌<◌, length, map, take, get_or, arith}
use Rattle.std.specs.Option.{option_to_list}
use Rattle.std.proofs.lemmas.List.{take_more, map-append}
use Rattle.spdx_lexer.specs.Words.{Span}
use Rattle.spdx_parser.specs.declared.node.ExprNode.{ExprNode}
use Rattle.spdx_parser.specs.Tree.{Node, node_of}
use Rattle.spdx_parser.specs.Spans.{requirement_spans, node_span}
use Rattle.spdx_evaluation.proofs.Nodes.{spans_more}
use Rattle.spdx.proofs.expression.clone_nodes.Goals as goal

nodes_more : (copy nodes : List ExprNode) (i : ℕ) (d n m : ExprNode) → i < length nodes → n ≡ get_or nodes i d → node_of m ≡ node_of n
    → map node_of copy ≡ map node_of (take i nodes) → map node_of (copy ++ m ∷ []) ≡ map node_of (take (i + 1) nodes)
nodes_more copy nodes i d n m lt is same so_far =
    map-append node_of copy (m ∷ [])
    ∙ ap (λ (z : List Node). z ++ node_of m ∷ []) so_far
    ∙ ap (λ (z : Node). map node_of (take i nodes) ++ z ∷ []) (same ∙ ap node_of is)
    ∙ sym (map-append node_of (take i nodes) (get_or nodes i d ∷ []))
    ∙ sym (ap (λ (z : List ExprNode). map node_of z) (take_more nodes i d lt))

spans_once_more : (copy nodes : List ExprNode) (i : ℕ) (d n m : ExprNode) → i < length nodes → n ≡ get_or nodes i d → node_span m ≡ node_span n
    → requirement_spans copy ≡ requirement_spans (take i nodes) → requirement_spans (copy ++ m ∷ []) ≡ requirement_spans (take (i + 1) nodes)
spans_once_more copy nodes i d n m lt is same so_far =
    spans_more copy m
    ∙ ap (λ (z : List Span). z ++ option_to_list (node_span m)) so_far
    ∙ ap (λ z. requirement_spans (take i nodes) ++ option_to_list z) (same ∙ ap node_span is)
    ∙ sym (spans_more (take i nodes) (get_or nodes i d))
    ∙ sym (ap requirement_spans (take_more nodes i d lt))

pub loop-node-preserved : goal.loop-node-preserved
loop-node-preserved c =
    let lt : c.loop-node.node-index < length c.args.nodes.now = omega arith in
    record {
      nodes = rw c.in_ok-push.ensures.ok (nodes_more c.loop-node.copy.items c.args.nodes.now c.loop-node.node-index _ _ c.in_ok-copied.copied lt c.node-item.is c.in_ok-copied.ensures.node c.loop-node.invariant.nodes);
      spans = rw c.in_ok-push.ensures.ok (spans_once_more c.loop-node.copy.items c.args.nodes.now c.loop-node.node-index _ _ c.in_ok-copied.copied lt c.node-item.is c.in_ok-copied.ensures.span c.loop-node.invariant.spans);
    }
