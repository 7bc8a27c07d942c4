-- What holds after some of the nodes were read, and one node more.
use Rattle.std.proofs.Common.{◌≡◌, ℕ, suc, ◌+◌, ◌-◌, ◌<◌, ◌≤◌, Bool, List, [], ◌∷◌, ◌++◌, length, take, drop, map, refl, sym, ◌∙◌, ap, subst, arith, get_or}
use Rattle.std.proofs.lemmas.List.{append-nil, append_assoc, drop_more, take_more, take_all, drop_all, length-map}
use Rattle.spdx_requirement.specs.declared.requirement.LicenseReq.{LicenseReq}
use Rattle.spdx_requirement.specs.Items.{Requirement}
use Rattle.selections.specs.Truths.{Stack, join_newest}
use Rattle.spdx_parser.specs.declared.node.Operator.{Operator}
use Rattle.spdx_parser.specs.declared.node.ExpressionReq.{ExpressionReq}
use Rattle.spdx_parser.specs.declared.node.ExprNode.{ExprNode}
use Rattle.spdx_parser.specs.Tree.{Tree, Node, Op, postfix, leaves, node_of}
use Rattle.spdx_evaluation.specs.Truth.{joined, truth_of}
use Rattle.spdx_evaluation.specs.Requirements.{requirements_in}
use Rattle.spdx_evaluation.specs.Calls.{CallsGive, AsksFor, Evaluates}
use Rattle.spdx_evaluation.specs.Postfix.{tree_in}
use Rattle.spdx_evaluation.proofs.Nodes.{requirement_at, requirements_of_tree, requirements_in-append}
use Rattle.spdx_evaluation.proofs.Machine.{stack_behind, LeavesOne, length-join_newest, stack_behind_postfix, leaves_one_postfix}

pub calls_more : {F A R : Type 0} (S : F → A → R → F → Type 0) (f : F) (xs : List A) (bs : List R) (g : F) (x : A) (b : R) (h : F) → CallsGive S f xs bs g → S g x b h → CallsGive S f (xs ++ x ∷ []) (bs ++ b ∷ []) h
calls_more {F} S f [] [] g x b h e s = (h, subst (λ (z : F). S z x b h) e s, refl)
calls_more S f (y ∷ ys) (c ∷ cs) g x b h (k, one, more) s = (k, one, calls_more S k ys cs g x b h more s)
calls_more S f [] (c ∷ cs) g x b h e s = absurd e
calls_more S f (y ∷ ys) [] g x b h e s = absurd e

pub calls_length : {F A R : Type 0} (S : F → A → R → F → Type 0) (f : F) (xs : List A) (bs : List R) (g : F) → CallsGive S f xs bs g → length bs ≡ length xs
calls_length S f [] [] g e = refl
calls_length S f (y ∷ ys) (c ∷ cs) g (k, one, more) = ap suc (calls_length S k ys cs g more)
calls_length S f [] (c ∷ cs) g e = absurd e
calls_length S f (y ∷ ys) [] g e = absurd e

-- a call for the requirement that a node holds
abbrev pub CallsOn : {F : Type 0} → (F → LicenseReq → Bool → F → Type 0) → F → ExpressionReq → Bool → F → Type 0
CallsOn S f x b g = S f x.req b g

pub calls_ask : {F : Type 0} (S : F → LicenseReq → Bool → F → Type 0) (f : F) (xs : List ExpressionReq) (bs : List Bool) (g : F) → CallsGive (CallsOn S) f xs bs g → CallsGive (AsksFor S) f (map requirement_at xs) bs g
calls_ask S f [] [] g e = e
calls_ask S f (y ∷ ys) (c ∷ cs) g (k, one, more) = (k, (y.req, refl, one), calls_ask S k ys cs g more)
calls_ask S f [] (c ∷ cs) g e = absurd e
calls_ask S f (y ∷ ys) [] g e = absurd e

-- after i nodes: the calls so far, what the stack is worth, and what is still needed
pub record Evaluating {F : Type 0} (S : F → ExpressionReq → Bool → F → Type 0) (f g : F) (nodes : List ExprNode) (i : ℕ) (s : Stack) : Type 0 where
  pub answers : List Bool
  pub calls : CallsGive S f (requirements_in (take i nodes)) answers g
  pub same : (more : List Bool) → stack_behind (map node_of nodes) (answers ++ more) [] ≡ stack_behind (map node_of (drop i nodes)) more s.items
  pub enough : LeavesOne (map node_of (drop i nodes)) (length s.items)
  pub room : length s.items + (length nodes - i) ≤ s.room

pub begins : {F : Type 0} (S : F → ExpressionReq → Bool → F → Type 0) (f : F) (nodes : List ExprNode) (s : Stack) (t : Tree) → map node_of nodes ≡ postfix t → s.items ≡ [] → length nodes ≤ s.room → Evaluating S f f nodes 0 s
begins S f nodes s t e empty room = record {
  answers = [];
  calls = refl;
  same = λ more. ap (stack_behind (map node_of nodes) more) (sym empty);
  enough =
      let n : 0 ≡ length s.items = sym (ap length empty) in
      let all : postfix t ++ [] ≡ map node_of nodes = append-nil (postfix t) ∙ sym e in
      subst (λ (z : List Node). LeavesOne z (length s.items)) all (leaves_one_postfix t [] (length s.items) (omega arith));
  room = omega (arith, ap length empty);
}

-- the nodes from i on, where i holds n
tail_is : (nodes : List ExprNode) (i : ℕ) (d n : ExprNode) → i < length nodes → get_or nodes i d ≡ n → map node_of (drop i nodes) ≡ node_of n ∷ map node_of (drop (i + 1) nodes)
tail_is nodes i d n lt node = ap (λ (z : List ExprNode). map node_of z) (drop_more nodes i d lt) ∙ ap (λ (z : ExprNode). node_of z ∷ map node_of (drop (i + 1) nodes)) node

-- the requirements before i + 1
front_is : (nodes : List ExprNode) (i : ℕ) (d n : ExprNode) → i < length nodes → get_or nodes i d ≡ n → requirements_in (take (i + 1) nodes) ≡ requirements_in (take i nodes) ++ requirements_in (n ∷ [])
front_is nodes i d n lt node =
    ap requirements_in (take_more nodes i d lt ∙ ap (λ (z : ExprNode). take i nodes ++ z ∷ []) node) ∙ requirements_in-append (take i nodes) (n ∷ [])

pub reads_requirement : {F : Type 0} (S : F → ExpressionReq → Bool → F → Type 0) (f g : F) (nodes : List ExprNode) (i : ℕ) (s : Stack) (d : ExprNode) (r : ExpressionReq) (b : Bool) (h : F) (new : Stack)
    → Evaluating S f g nodes i s → i < length nodes → get_or nodes i d ≡ ExprNode.Req r → S g r b h → new.items ≡ b ∷ s.items → new.room ≡ s.room → Evaluating S f h nodes (i + 1) new
reads_requirement {F} S f g nodes i s d r b h new v lt node called items room =
    let tail = tail_is nodes i d (ExprNode.Req r) lt node in
    let front = front_is nodes i d (ExprNode.Req r) lt node in
    let one_more : length new.items ≡ length s.items + 1 = omega (arith, ap length items) in
    record {
      answers = v.answers ++ b ∷ [];
      calls = subst (λ (z : List ExpressionReq). CallsGive S f z (v.answers ++ b ∷ []) h) (sym front) (calls_more S f _ v.answers g r b h v.calls called);
      same = λ more.
          ap (λ (z : List Bool). stack_behind (map node_of nodes) z []) (append_assoc v.answers (b ∷ []) more)
          ∙ v.same (b ∷ more)
          ∙ ap (λ (z : List Node). stack_behind z (b ∷ more) s.items) tail
          ∙ ap (λ (z : List Bool). stack_behind (map node_of (drop (i + 1) nodes)) more z) (sym items);
      enough =
          let before : LeavesOne (node_of (ExprNode.Req r) ∷ map node_of (drop (i + 1) nodes)) (length s.items) = subst (λ (z : List Node). LeavesOne z (length s.items)) tail v.enough in
          subst (λ (n : ℕ). LeavesOne (map node_of (drop (i + 1) nodes)) n) (sym one_more) before;
      room = omega (arith, v.room, one_more, room);
    }

-- at an operator there are two truths
pub two_there : {F : Type 0} (S : F → ExpressionReq → Bool → F → Type 0) (f g : F) (nodes : List ExprNode) (i : ℕ) (s : Stack) (d : ExprNode) (o : Operator)
    → Evaluating S f g nodes i s → i < length nodes → get_or nodes i d ≡ ExprNode.Op o → 2 ≤ length s.items
two_there S f g nodes i s d o v lt node =
    let before : LeavesOne (Op o ∷ map node_of (drop (i + 1) nodes)) (length s.items) = subst (λ (z : List Node). LeavesOne z (length s.items)) (tail_is nodes i d (ExprNode.Op o) lt node) v.enough in
    before.0

pub reads_operator : {F : Type 0} (S : F → ExpressionReq → Bool → F → Type 0) (f g : F) (nodes : List ExprNode) (i : ℕ) (s : Stack) (d : ExprNode) (o : Operator) (new : Stack)
    → Evaluating S f g nodes i s → i < length nodes → get_or nodes i d ≡ ExprNode.Op o → new.items ≡ join_newest (joined o) s.items → new.room ≡ s.room → Evaluating S f g nodes (i + 1) new
reads_operator {F} S f g nodes i s d o new v lt node items room =
    let tail = tail_is nodes i d (ExprNode.Op o) lt node in
    let front : requirements_in (take (i + 1) nodes) ≡ requirements_in (take i nodes) = front_is nodes i d (ExprNode.Op o) lt node ∙ append-nil _ in
    let before : LeavesOne (Op o ∷ map node_of (drop (i + 1) nodes)) (length s.items) = subst (λ (z : List Node). LeavesOne z (length s.items)) tail v.enough in
    let one_less : length new.items ≡ length s.items - 1 = ap length items ∙ length-join_newest (joined o) s.items before.0 in
    record {
      answers = v.answers;
      calls = subst (λ (z : List ExpressionReq). CallsGive S f z v.answers g) (sym front) v.calls;
      same = λ more.
          v.same more
          ∙ ap (λ (z : List Node). stack_behind z more s.items) tail
          ∙ ap (λ (z : List Bool). stack_behind (map node_of (drop (i + 1) nodes)) more z) (sym items);
      enough = subst (λ (n : ℕ). LeavesOne (map node_of (drop (i + 1) nodes)) n) (sym one_less) before.1;
      room = omega (arith, v.room, one_less, room);
    }

-- no node is left
none_left : (nodes : List ExprNode) (i : ℕ) → length nodes ≤ i → map node_of (drop i nodes) ≡ []
none_left nodes i le = ap (λ (z : List ExprNode). map node_of z) (drop_all i nodes le)

pub one_left : {F : Type 0} (S : F → ExpressionReq → Bool → F → Type 0) (f g : F) (nodes : List ExprNode) (i : ℕ) (s : Stack) → Evaluating S f g nodes i s → length nodes ≤ i → length s.items ≡ 1
one_left S f g nodes i s v le = subst (λ (z : List Node). LeavesOne z (length s.items)) (none_left nodes i le) v.enough

-- the truth that is left is that of the tree
pub record Evaluated {F : Type 0} (S : F → ExpressionReq → Bool → F → Type 0) (f : F) (nodes : List ExprNode) (t : Tree) (g : F) (truth : Bool) : Type 0 where
  pub answers : List Bool
  pub calls : CallsGive S f (requirements_in nodes) answers g
  pub value : truth ≡ truth_of t answers

pub finishes : {F : Type 0} (S : F → ExpressionReq → Bool → F → Type 0) (f g : F) (nodes : List ExprNode) (i : ℕ) (s : Stack) (truth : Bool) (rest : List Bool) (t : Tree)
    → Evaluating S f g nodes i s → length nodes ≤ i → s.items ≡ truth ∷ rest → map node_of nodes ≡ postfix t → Evaluated S f nodes t g truth
finishes S f g nodes i s truth rest t v le items tree =
    let calls : CallsGive S f (requirements_in nodes) v.answers g = subst (λ (z : List ExprNode). CallsGive S f (requirements_in z) v.answers g) (take_all i nodes le) v.calls in
    let each : length v.answers ≡ length (leaves t) =
    calls_length S f (requirements_in nodes) v.answers g calls ∙ sym (length-map (requirements_in nodes) requirement_at) ∙ ap length (requirements_of_tree nodes t tree) in
    let made : stack_behind (postfix t ++ []) (v.answers ++ []) [] ≡ truth_of t v.answers ∷ [] = stack_behind_postfix t v.answers [] [] [] each in
    let there : stack_behind (map node_of nodes) (v.answers ++ []) [] ≡ truth ∷ rest = v.same [] ∙ ap (λ (z : List Node). stack_behind z [] s.items) (none_left nodes i le) ∙ items in
    let here : stack_behind (map node_of nodes) (v.answers ++ []) [] ≡ truth_of t v.answers ∷ [] = ap (λ (z : List Node). stack_behind z (v.answers ++ []) []) (tree ∙ sym (append-nil (postfix t))) ∙ made in
    let both : truth ∷ rest ≡ truth_of t v.answers ∷ [] = sym there ∙ here in
    record { answers = v.answers; calls = calls; value = cc }

-- the calls at the nodes are calls for the requirements of the tree
pub asks_of_tree : {F : Type 0} (S : F → LicenseReq → Bool → F → Type 0) (f g : F) (nodes : List ExprNode) (t : Tree) (answers : List Bool) → map node_of nodes ≡ postfix t → CallsGive (CallsOn S) f (requirements_in nodes) answers g → CallsGive (AsksFor S) f (leaves t) answers g
asks_of_tree S f g nodes t answers tree calls =
    subst (λ (z : List Requirement). CallsGive (AsksFor S) f z answers g) (requirements_of_tree nodes t tree) (calls_ask S f (requirements_in nodes) answers g calls)

-- as callers are told it
pub evaluates : {F : Type 0} (S : F → LicenseReq → Bool → F → Type 0) (f g : F) (nodes : List ExprNode) (t : Tree) (truth : Bool) → map node_of nodes ≡ postfix t → Evaluated (CallsOn S) f nodes t g truth → Evaluates S f t truth g
evaluates S f g nodes t truth tree v = (v.answers, asks_of_tree S f g nodes t v.answers tree v.calls, v.value)

-- one requirement is its leaf, whose truth is the one answer
pub evaluates_one : {F : Type 0} (S : F → LicenseReq → Bool → F → Type 0) (f g : F) (nodes : List ExprNode) (d : ExprNode) (r : ExpressionReq) (b : Bool)
    → length nodes ≡ 1 → get_or nodes 0 d ≡ ExprNode.Req r → S f r.req b g → Evaluates S f (tree_in nodes) b g
evaluates_one {F} S f g (n ∷ []) d r b one node called = subst (λ (z : ExprNode). Evaluates S f (tree_in (z ∷ [])) b g) (sym node) (b ∷ [], (g, (r.req, refl, called), refl), refl)
evaluates_one S f g [] d r b one node called = cc
evaluates_one S f g (n ∷ m ∷ ms) d r b one node called = absurd (omega (arith, one))

-- two requirements and an operator are its tree over their leaves, whose truth is what it makes of both answers
pub evaluates_two : {F : Type 0} (S : F → LicenseReq → Bool → F → Type 0) (f h g : F) (nodes : List ExprNode) (c d e : ExprNode) (q r : ExpressionReq) (o : Operator) (a b truth : Bool) → length nodes ≡ 3
    → get_or nodes 0 c ≡ ExprNode.Req q → get_or nodes 1 d ≡ ExprNode.Req r → get_or nodes 2 e ≡ ExprNode.Op o → S f q.req a h → S h r.req b g → truth ≡ joined o a b
    → Evaluates S f (tree_in nodes) truth g
evaluates_two {F} S f h g (n ∷ m ∷ k ∷ []) c d e q r o a b truth three first second last one other is =
    subst (λ (x : ExprNode). Evaluates S f (tree_in (x ∷ m ∷ k ∷ [])) truth g) (sym first)
    (subst (λ (y : ExprNode). Evaluates S f (tree_in (ExprNode.Req q ∷ y ∷ k ∷ [])) truth g) (sym second)
    (subst (λ (z : ExprNode). Evaluates S f (tree_in (ExprNode.Req q ∷ ExprNode.Req r ∷ z ∷ [])) truth g) (sym last)
    (a ∷ b ∷ [], (h, (q.req, refl, one), (g, (r.req, refl, other), refl)), is)))
evaluates_two S f h g [] c d e q r o a b truth three first second last one other is = cc
evaluates_two S f h g (n ∷ []) c d e q r o a b truth three first second last one other is = absurd (omega (arith, three))
evaluates_two S f h g (n ∷ m ∷ []) c d e q r o a b truth three first second last one other is = absurd (omega (arith, three))
evaluates_two S f h g (n ∷ m ∷ k ∷ j ∷ js) c d e q r o a b truth three first second last one other is = absurd (omega (arith, three))
