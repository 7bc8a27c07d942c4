-- An expression that is made of the nodes of a text, and the place of a text's fault.
use Rattle.std.proofs.Common.{◌≡◌, ℕ, List, map, sym, ◌∙◌, ap, subst}
use Rattle.spdx_requirement.specs.Rows.{Rows}
use Rattle.spdx_lexer.specs.declared.token.ParseMode.{ParseMode}
use Rattle.spdx_lexer.specs.Words.{words}
use Rattle.spdx_parser.specs.declared.node.ExprNode.{ExprNode}
use Rattle.spdx_parser.specs.Tree.{Tree, postfix, node_of}
use Rattle.spdx_parser.specs.Spans.{requirement_spans}
use Rattle.spdx_parser.specs.Grammar.{IsTheTree}
use Rattle.spdx_parser.specs.Meaning.{IsParsed, IsOfRows}
use Rattle.spdx_evaluation.specs.Postfix.{IsPostfix, tree_of}
use Rattle.spdx_evaluation.specs.PostfixLaws.{tree_of_postfix}
use Rattle.spdx.specs.Value.{Written}
use Rattle.spdx.specs.Meaning.{IsReadFrom}

module _ (c : Rows) (m : ParseMode) (text : List ℕ) (nodes : List ExprNode) (p : IsParsed c m text nodes) where
  pub are_postfix : IsPostfix (map node_of nodes)
  are_postfix = p.nodes_are ∙ ap postfix (sym (ap tree_of p.nodes_are ∙ tree_of_postfix p.tree))

  pub read_from : (e : Written) → ((t : Tree) → map node_of nodes ≡ postfix t → e.tree ≡ t) → e.spans ≡ requirement_spans nodes → e.text ≡ text → IsReadFrom c m text e
  read_from e tree spans same_text =
      let same : p.tree ≡ e.tree = sym (tree p.tree p.nodes_are) in
      record {
        read = p.read;
        reads = p.reads;
        meant = subst (λ (t : Tree). IsTheTree c m (words p.read) t) same p.meant;
        spans_are = spans ∙ p.spans_are;
        rows_are = subst (λ (t : Tree). IsOfRows c t) same p.rows_are;
        text_is = same_text;
      }
