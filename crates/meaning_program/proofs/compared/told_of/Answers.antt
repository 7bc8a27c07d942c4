use Rattle.std.proofs.Common.{rules, ◌≡◌, ◌∙◌, ap, subst, ℕ, Bool, List}
use Rattle.std.specs.Prelude.{bytes_eq}
use Rattle.spdx_parser.specs.declared.node.ExprNode.{ExprNode}
use Rattle.spdx_evaluation.specs.Postfix.{tree_in}
use Rattle.spdx_meaning.specs.Comparing.{IsComparisonOf}
use Rattle.meaning_program.specs.Sayings.{alike, told_text}
use Rattle.meaning_program.proofs.compared.told_of.Goals as goal

pub returns : goal.returns
returns c =
    let x = c.in_ok-comparison.comparison in
    let one : c.as_slice-one.result.now ≡ c.args.first.now.nodes.items = search rules in
    let other : c.as_slice-other.result.now ≡ c.args.second.now.nodes.items = search rules in
    let equal : c.eq.result ≡ bytes_eq c.args.asked.one.now c.args.asked.other.now = search rules in
    record {
      comparison = x;
      compares = subst (λ (ns : List ExprNode). IsComparisonOf (tree_in ns) (tree_in c.args.second.now.nodes.items) x) one
          (subst (λ (ns : List ExprNode). IsComparisonOf (tree_in c.as_slice-one.result.now) (tree_in ns) x) other c.in_ok-comparison.ensures);
      text_is = c.in_ok-text.ensures
          ∙ ap (λ (b : Bool). told_text b c.in_ok-is_alike.is_alike x) equal
          ∙ ap (λ (b : Bool). told_text (bytes_eq c.args.asked.one.now c.args.asked.other.now) b x) c.in_ok-is_alike.ensures
          ∙ ap (λ (ns : List ExprNode). told_text (bytes_eq c.args.asked.one.now c.args.asked.other.now) (alike (tree_in ns) (tree_in c.as_slice-other.result.now)) x) one
          ∙ ap (λ (ns : List ExprNode). told_text (bytes_eq c.args.asked.one.now c.args.asked.other.now) (alike (tree_in c.args.first.now.nodes.items) (tree_in ns)) x) other;
      same_is = c.is_same.ensures;
    }
