-- The first part that is shown of an expression agrees with the verdict.
use Rattle.std.proofs.Common.{◌≡◌, ℕ, Bool, true, false, List, [], ◌∷◌, length, map, suc, refl, sym, ap, ◌∙◌, subst, arith}
use Rattle.std.proofs.lemmas.List.{length-map}
use Rattle.gate_forms.specs.declared.reports.Leaf.{Leaf}
use Rattle.gate_forms.specs.declared.reports.Node.{Node}
use Rattle.gate_forms.specs.Report.{is_accepted}
use Rattle.spdx_requirement.specs.Items.{Requirement}
use Rattle.spdx_requirement.specs.Rows.{Rows}
use Rattle.spdx_parser.specs.declared.node.ExprNode.{ExprNode}
use Rattle.spdx_parser.specs.declared.node.ExpressionReq.{ExpressionReq}
use Rattle.spdx_parser.specs.Tree.{Tree, leaves, node_of}
use Rattle.spdx_evaluation.specs.Postfix.{IsPostfix, tree_in}
use Rattle.spdx_evaluation.specs.Requirements.{requirements_in}
use Rattle.spdx_evaluation.specs.Truth.{holds, truth_of}
use Rattle.spdx_evaluation.proofs.Nodes.{requirement_at, requirements_of_tree}
use Rattle.spdx_policy.specs.declared.decision.Decision.{Decision}
use Rattle.spdx_policy.specs.declared.decision.Decision.TheVariants as decision
use Rattle.spdx_policy.specs.Decisions.{decision_of}
use Rattle.spdx_policy.specs.Rules.{Rules}
use Rattle.spdx_why.specs.Marks.{allows}
use Rattle.spdx_gate.specs.declared.judged.Judged.{Judged}
use Rattle.spdx_gate.specs.declared.judgement.Outcome.{Outcome}
use Rattle.spdx_gate.specs.declared.judgement.Outcome.TheVariants as outcome
use Rattle.spdx_gate.specs.Allowing.{allowed_in, mark_of}
use Rattle.spdx_gate.specs.Judging.{IsDecided, IsJudged, IsOutcome}
use Rattle.spdx_gate.specs.Verdicts.{passes, verdict_by}
use Rattle.gate_told.specs.Moved.{moved}
use Rattle.gate_told.specs.Shown.{AreOf, is_first_accepted, is_leaf_accepted, is_tree_accepted}
use Rattle.gate_told.specs.Texts.{leaves_in}
use Rattle.gate_told.specs.Told.{decision_at, leaves_from, told_leaf, told_leaves, told_mark}
use Rattle.gate_told.proofs.Moving.{are_of, moved_truths}

same_mark : (d : Decision) → is_accepted (told_mark d) ≡ allows (mark_of d)
same_mark (decision.Allowed e) = refl
same_mark (decision.Denied e) = refl
same_mark decision.Open = refl

-- the decision of the first is no matter to the others
behind : (p : Rules) (d : Decision) (ds : List Decision) (number : ℕ) (rs : List ExpressionReq) → leaves_from p (d ∷ ds) (suc number) rs ≡ leaves_from p ds number rs
behind p d ds number [] = refl
behind p d ds number (r ∷ rs) = ap (λ (xs : List Leaf). told_leaf p r (decision_at ds number) ∷ xs) (behind p d ds (suc number) rs)

-- a leaf is accepted where its decision allows
leaf_truths : (p : Rules) (ds : List Decision) (rs : List ExpressionReq) → length ds ≡ length rs → map is_leaf_accepted (leaves_from p ds 0 rs) ≡ map (λ d. allows (mark_of d)) ds
leaf_truths p [] [] e = refl
leaf_truths p [] (r ∷ rs) e = absurd (omega arith)
leaf_truths p (d ∷ ds) [] e = absurd (omega arith)
leaf_truths p (d ∷ ds) (r ∷ rs) e =
    let rest : length ds ≡ length rs = omega arith in
    ap (λ (xs : List Leaf). is_accepted (told_mark d) ∷ map is_leaf_accepted xs) (behind p d ds 0 rs)
    ∙ ap (λ (b : Bool). b ∷ map is_leaf_accepted (leaves_from p ds 0 rs)) (same_mark d)
    ∙ ap (λ (bs : List Bool). allows (mark_of d) ∷ bs) (leaf_truths p ds rs rest)

allowed_each : (p : Rules) (tables : List ℕ) (rs : List Requirement) → map (λ d. allows (mark_of d)) (map (decision_of p tables) rs) ≡ map (allowed_in p tables) rs
allowed_each p tables [] = refl
allowed_each p tables (r ∷ rs) = ap (λ (bs : List Bool). allowed_in p tables r ∷ bs) (allowed_each p tables rs)

passes_by : (a b : Bool) → passes (verdict_by a b) ≡ a
passes_by true true = refl
passes_by true false = refl
passes_by false true = refl
passes_by false false = refl

tree_agrees : (p : Rules) (tables : List ℕ) (t : Tree) (d : Judged) → IsDecided p tables t d → tree_in d.nodes.items ≡ t → IsPostfix (map node_of d.nodes.items)
    → length d.decisions.items ≡ length (leaves (tree_in d.nodes.items)) → is_tree_accepted (tree_in d.nodes.items) (told_leaves p d) ≡ passes d.verdict
tree_agrees p tables t d is tree post each =
    let len : length d.decisions.items ≡ length (requirements_in d.nodes.items) =
    each ∙ sym (ap length (requirements_of_tree d.nodes.items (tree_in d.nodes.items) post)) ∙ length-map (requirements_in d.nodes.items) requirement_at in
    ap (λ (u : Tree). is_tree_accepted u (told_leaves p d)) tree
    ∙ ap (truth_of t) (leaf_truths p d.decisions.items (requirements_in d.nodes.items) len ∙ ap (map (λ d. allows (mark_of d))) is.decisions_are ∙ allowed_each p tables (leaves t))
    ∙ sym (ap passes is.verdict_is ∙ passes_by (holds (allowed_in p tables) t) (holds (allowed_in p []) t))

pub first_agrees : (c : Rows) (p : Rules) (tables text : List ℕ) (o : Outcome) (d : Judged) (ns : List ExprNode) (xs ys : List Leaf) (nodes : List Node)
    → IsOutcome c p tables text o → o ≡ outcome.Judged d → IsPostfix (map node_of d.nodes.items) → length d.decisions.items ≡ length (leaves (tree_in d.nodes.items))
    → ns ≡ d.nodes.items → ys ≡ xs → map moved xs ≡ leaves_in p o
    → ((t : Tree) → AreOf t ns ys → is_first_accepted nodes ≡ is_tree_accepted t ys) → is_first_accepted nodes ≡ passes d.verdict
first_agrees c p tables text o d ns xs ys nodes right is post each hn hy hx first =
    let judged : IsJudged c p tables text d = subst (IsOutcome c p tables text) is right in
    let told : map moved xs ≡ told_leaves p d = hx ∙ ap (leaves_in p) is in
    let t = tree_in d.nodes.items in
    let are : AreOf t ns ys =
    subst (λ (zs : List ExprNode). AreOf t zs ys) (sym hn) (subst (λ (zs : List Leaf). AreOf t d.nodes.items zs) (sym hy) (are_of p d xs post told)) in
    first t are ∙ ap (is_tree_accepted t) hy
    ∙ ap (truth_of t) (sym (moved_truths xs) ∙ ap (map is_leaf_accepted) told)
    ∙ tree_agrees p tables judged.parsed.tree d judged.decided judged.tree_is post each
