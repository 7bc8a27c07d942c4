-- The useful licensees, the chosen ones, and the choice.
use Rattle.std.proofs.Common.{◌≡◌, ℕ, ◌+◌, ◌<◌, ◌≤◌, Bool, true, false, ◌||◌, ◌&&◌, cond, List, [], ◌∷◌, ◌++◌, length, take, drop, map, nat_lt, get_or, suc, Some, None, refl, sym, ◌∙◌, ap, subst, arith}
use Rattle.std.specs.List.{list_any, filter}
use Rattle.std.proofs.lemmas.List.{append_assoc, drop_more, take-map, drop-map}
use Rattle.std.proofs.lemmas.List.Elements.{filter-append}
use Rattle.std.proofs.lemmas.Bool.Decides.{nat_tests}
use Rattle.spdx_requirement.specs.Items.{Requirement, requirement_of}
use Rattle.spdx_parser.specs.declared.node.ExpressionReq.{ExpressionReq}
use Rattle.spdx_parser.specs.declared.node.ExprNode.{ExprNode}
use Rattle.spdx_parser.specs.declared.node.Operator.{Operator}
use Rattle.spdx_parser.specs.declared.node.Operator.TheVariants.{And, Or}
use Rattle.spdx_parser.specs.Tree.{Tree, Leaf, Join, postfix, leaves, node_of}
use Rattle.selections.specs.Selection.{IsLeast, NoneSuffices}
use Rattle.spdx_requirement.specs.Equality.{same_requirement}
use Rattle.spdx_evaluation.specs.Truth.{joined, truth_of}
use Rattle.spdx_evaluation.specs.Requirements.{requirements_in}
use Rattle.spdx_minimize.specs.Choice.{first_ones, suffices_for, chosen_of, chosen, unmet, choice_among, too_many, least_of}
use Rattle.spdx_minimize.proofs.Chooses.{choice_by}
use Rattle.spdx_evaluation.proofs.Nodes.{requirement_at, requirements_of_tree}
use Rattle.spdx_minimize.proofs.Selections.{IsLeast-least_of, none_found}

any_each : (p : Requirement → Bool) (rs : List ExpressionReq) → list_any (λ r. p (requirement_of r.req)) rs ≡ list_any p (map requirement_at rs)
any_each p [] = refl
any_each p (r ∷ rs) = ap (λ (z : Bool). p (requirement_of r.req) || z) (any_each p rs)

-- a test of the requirements among the nodes is one of the tree's
pub any_in_tree : (p : Requirement → Bool) (nodes : List ExprNode) (t : Tree) → map node_of nodes ≡ postfix t → list_any (λ r. p (requirement_of r.req)) (requirements_in nodes) ≡ list_any p (leaves t)
any_in_tree p nodes t e = any_each p (requirements_in nodes) ∙ ap (list_any p) (requirements_of_tree nodes t e)

pub found_at : (p : ExpressionReq → Bool) (nodes : List ExprNode) (i : ℕ) (d : ExprNode) (r : ExpressionReq) → i < length nodes → get_or nodes i d ≡ ExprNode.Req r → p r ≡ true → list_any p (requirements_in (drop i nodes)) ≡ true
found_at p nodes i d r lt is e =
    ap (λ (z : List ExprNode). list_any p (requirements_in z)) (drop_more nodes i d lt ∙ ap (λ (z : ExprNode). z ∷ drop (i + 1) nodes) is)
    ∙ ap (λ (z : Bool). z || list_any p (requirements_in (drop (i + 1) nodes))) e

-- one member more is chosen or not
pub chosen_more : (ms : List Requirement) (bs : List Bool) (i : ℕ) (d : Requirement) (b : Bool) → i < length ms → i < length bs → get_or bs i false ≡ b → (old new : List Requirement) → new ≡ old ++ cond b (get_or ms i d ∷ []) []
    → (all : List Requirement) → old ++ chosen_of (drop i ms) (drop i bs) ≡ all → new ++ chosen_of (drop (i + 1) ms) (drop (i + 1) bs) ≡ all
chosen_more ms bs i d b h k e old new made all before =
    let rest = chosen_of (drop (i + 1) ms) (drop (i + 1) bs) in
    let one : chosen_of (drop i ms) (drop i bs) ≡ cond b (get_or ms i d ∷ []) [] ++ rest = rw (drop_more ms i d h, drop_more bs i false k, e) refl in
    ap (λ (z : List Requirement). z ++ rest) made ∙ append_assoc old (cond b (get_or ms i d ∷ []) []) rest ∙ ap (λ (z : List Requirement). old ++ z) (sym one) ∙ before

few_enough : (n : ℕ) → n ≤ 1024 → nat_lt 1024 n ≡ false
few_enough n h = grind (arith, nat_tests, h)

pub choice_least : (trees : List Tree) (ms : List Requirement) (s : List Bool) → length ms ≤ 1024 → IsLeast (suffices_for trees ms) (length ms) s → choice_among trees ms ≡ chosen (chosen_of ms s)
choice_least trees ms s few least =
    ap (λ (b : Bool). cond b (too_many (length ms)) (choice_by ms (least_of (suffices_for trees ms) (length ms)))) (few_enough (length ms) few)
    ∙ ap (choice_by ms) (IsLeast-least_of (suffices_for trees ms) (length ms) s least)

pub choice_unmet : (trees : List Tree) (ms : List Requirement) → length ms ≤ 1024 → NoneSuffices (suffices_for trees ms) (length ms) → choice_among trees ms ≡ unmet
choice_unmet trees ms few none =
    ap (λ (b : Bool). cond b (too_many (length ms)) (choice_by ms (least_of (suffices_for trees ms) (length ms)))) (few_enough (length ms) few)
    ∙ ap (choice_by ms) (none_found (suffices_for trees ms) (length ms) none)

both_false : (o : Operator) → joined o false false ≡ false
both_false And = refl
both_false Or = refl

-- no tree is true where every answer is false
nobody_suffices : (t : Tree) (rs : List Requirement) → truth_of t (map (λ r. false) rs) ≡ false
nobody_suffices (Leaf r) [] = refl
nobody_suffices (Leaf r) (x ∷ xs) = refl
nobody_suffices (Join o l r) rs =
    let n = length (leaves l) in
    let left : truth_of l (take n (map (λ r. false) rs)) ≡ false = ap (truth_of l) (take-map (λ (r : Requirement). false) n rs) ∙ nobody_suffices l (take n rs) in
    let right : truth_of r (drop n (map (λ r. false) rs)) ≡ false = ap (truth_of r) (drop-map (λ (r : Requirement). false) n rs) ∙ nobody_suffices r (drop n rs) in
    ap (λ (z : Bool). joined o z (truth_of r (drop n (map (λ r. false) rs)))) left ∙ ap (joined o false) right ∙ both_false o

-- without members there is no choice for some trees
pub choice_of_nobody : (trees : List Tree) (ms : List Requirement) → length ms ≡ 0 → 0 < length trees → choice_among trees ms ≡ unmet
choice_of_nobody [] ms e h = absurd (omega arith)
choice_of_nobody (t ∷ ts) (m ∷ ms) e h = let bad : suc (length ms) ≡ 0 = e in cc
choice_of_nobody (t ∷ ts) [] e h = ap (λ (b : Bool). choice_by [] (cond (b && suffices_for ts [] []) (Some []) None)) (nobody_suffices t (leaves t))

-- what is said of a judge's trees and members is said of those that it was made for
pub of_judge : (P : (List Bool → Bool) → ℕ → Type 0) (trees trees2 : List Tree) (ms ms2 : List Requirement) (n : ℕ) → trees ≡ trees2 → ms ≡ ms2 → n ≡ length ms2 → P (suffices_for trees ms) n → P (suffices_for trees2 ms2) (length ms2)
of_judge P trees trees2 ms ms2 n e f g h =
    subst (λ (k : ℕ). P (suffices_for trees2 ms2) k) g (subst (λ (z : List Requirement). P (suffices_for trees2 z) n) f (subst (λ (z : List Tree). P (suffices_for z ms) n) e h))

-- one licensee more, which is the same as one before or not
pub first_more : (before : List Requirement) (r : Requirement) (rest : List Requirement) (keeps : Requirement → Bool) (old new all : List Requirement)
    → new ≡ old ++ cond (list_any (λ b. same_requirement b r) before) [] (cond (keeps r) (r ∷ []) [])
    → old ++ filter keeps (first_ones before (r ∷ rest)) ≡ all → new ++ filter keeps (first_ones (before ++ r ∷ []) rest) ≡ all
first_more before r rest keeps old new all made so_far =
    let seen = list_any (λ b. same_requirement b r) before in
    let more = filter keeps (first_ones (before ++ r ∷ []) rest) in
    let here : filter keeps (cond seen [] (r ∷ [])) ≡ cond seen [] (cond (keeps r) (r ∷ []) []) = elim seen as (λ (b : Bool). filter keeps (cond b [] (r ∷ [])) ≡ cond b [] (cond (keeps r) (r ∷ []) [])) [ true ↦ refl | false ↦ refl ] in
    ap (λ (z : List Requirement). z ++ more) made
    ∙ append_assoc old (cond seen [] (cond (keeps r) (r ∷ []) [])) more
    ∙ ap (λ (z : List Requirement). old ++ (z ++ more)) (sym here)
    ∙ ap (λ (z : List Requirement). old ++ z) (sym (filter-append keeps (cond seen [] (r ∷ [])) (first_ones (before ++ r ∷ []) rest)))
    ∙ so_far
