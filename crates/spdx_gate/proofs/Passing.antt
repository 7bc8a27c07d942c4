-- The truth over decisions, and over what is allowed; and the tree of a text.
use Rattle.std.proofs.Common.{◌≡◌, ℕ, Bool, List, [], ◌∷◌, map, refl, sym, ◌∙◌, ap, subst}
use Rattle.spdx_requirement.specs.Rows.{Rows}
use Rattle.spdx_requirement.specs.Items.{Requirement}
use Rattle.spdx_lexer.specs.declared.token.ParseMode.{ParseMode}
use Rattle.spdx_parser.specs.declared.node.ExprNode.{ExprNode}
use Rattle.spdx_parser.specs.Tree.{Tree, leaves, postfix, node_of}
use Rattle.spdx_parser.specs.Meaning.{IsParsed}
use Rattle.spdx_evaluation.specs.Postfix.{IsPostfix, tree_in, tree_of}
use Rattle.spdx_evaluation.specs.PostfixLaws.{tree_of_postfix}
use Rattle.spdx_evaluation.specs.Truth.{holds, truth_of}
use Rattle.spdx_policy.specs.declared.decision.Decision.{Decision}
use Rattle.spdx_policy.specs.Decisions.{decision_of}
use Rattle.spdx_policy.specs.Rules.{Rules}
use Rattle.spdx_why.specs.declared.marks.Mark.{Mark}
use Rattle.spdx_why.specs.Marks.{allows}
use Rattle.spdx_gate.specs.declared.judged.Judged.{Judged}
use Rattle.spdx_gate.specs.Allowing.{mark_of, allowed_in}
use Rattle.spdx_gate.specs.Judging.{mode_of, IsDecided, IsJudged}

pub each_allowed : (p : Rules) (tables : List ℕ) (rs : List Requirement) → map allows (map mark_of (map (decision_of p tables) rs)) ≡ map (allowed_in p tables) rs
each_allowed p tables [] = refl
each_allowed p tables (r ∷ rs) = ap (λ (z : List Bool). allowed_in p tables r ∷ z) (each_allowed p tables rs)

pub passing : (p : Rules) (tables : List ℕ) (t : Tree) (ds : List Decision) (ms : List Mark) → ds ≡ map (decision_of p tables) (leaves t) → ms ≡ map mark_of ds → truth_of t (map allows ms) ≡ holds (allowed_in p tables) t
passing p tables t ds ms e f =
    ap (λ (z : List Mark). truth_of t (map allows z)) f
    ∙ ap (λ (z : List Decision). truth_of t (map allows (map mark_of z))) e
    ∙ ap (truth_of t) (each_allowed p tables (leaves t))

pub tree_parsed : (c : Rows) (m : ParseMode) (text : List ℕ) (nodes : List ExprNode) (v : IsParsed c m text nodes) → tree_in nodes ≡ v.tree
tree_parsed c m text nodes v = ap tree_of v.nodes_are ∙ tree_of_postfix v.tree

pub parsed_postfix : (c : Rows) (m : ParseMode) (text : List ℕ) (nodes : List ExprNode) → IsParsed c m text nodes → IsPostfix (map node_of nodes)
parsed_postfix c m text nodes v = v.nodes_are ∙ ap postfix (sym (tree_parsed c m text nodes v))

pub judged_of : (c : Rows) (p : Rules) (tables text : List ℕ) (m : ParseMode) (nodes : List ExprNode) (j : Judged) → m ≡ mode_of p → j.nodes.items ≡ nodes → IsParsed c m text nodes → IsDecided p tables (tree_in nodes) j → IsJudged c p tables text j
judged_of c p tables text m nodes j e f v h =
    let there : IsParsed c m text j.nodes.items = subst (IsParsed c m text) (sym f) v in
    let whole : IsParsed c (mode_of p) text j.nodes.items = subst (λ (z : ParseMode). IsParsed c z text j.nodes.items) e there in
    let tree : tree_in j.nodes.items ≡ whole.tree = tree_parsed c (mode_of p) text j.nodes.items whole in
    record { parsed = whole; tree_is = tree; decided = subst (λ (z : Tree). IsDecided p tables z j) (ap tree_in (sym f) ∙ tree) h }
