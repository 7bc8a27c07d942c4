-- The lists of sets over the nodes of a tree in postfix order.
use Rattle.std.proofs.Common.{◌≡◌, ℕ, zero, suc, ◌+◌, ◌-◌, ◌<◌, ◌≤◌, Bool, true, false, cond, nat_lt, List, [], ◌∷◌, ◌++◌, length, drop, map, get_or, Result, Ok, Err, refl, sym, ◌∙◌, ap, subst, arith}
use Rattle.std.specs.Prelude.{reverse}
use Rattle.std.specs.Global.{Vec}
use Rattle.std.proofs.lemmas.List.{append-nil, drop_more, drop_all, map-append, reverse-append}
use Rattle.std.proofs.lemmas.Bool.Decides.{nat_tests}
use Rattle.spdx_requirement.specs.Items.{Requirement}
use Rattle.spdx_parser.specs.declared.node.Operator.{Operator}
use Rattle.spdx_parser.specs.declared.node.Operator.TheVariants.{And, Or}
use Rattle.spdx_parser.specs.declared.node.ExpressionReq.{ExpressionReq}
use Rattle.spdx_parser.specs.declared.node.ExprNode.{ExprNode}
use Rattle.spdx_parser.specs.Tree.{Tree, Leaf, Join, Node, Op, Req, postfix, leaves, node_of}
use Rattle.spdx_evaluation.specs.Postfix.{IsPostfix, tree_in}
use Rattle.spdx_evaluation.specs.PostfixLaws.{regroup}
use Rattle.spdx_evaluation.specs.Requirements.{requirements_in}
use Rattle.spdx_evaluation.proofs.Nodes.{requirement_at, requirements_of_tree}
use Rattle.spdx_evaluation.proofs.Machine.{LeavesOne, leaves_one_postfix}
use Rattle.spdx_minimize.proofs.Asking.{each_leaf}
use Rattle.selections.proofs.Counts.{length-either, length-both}
use Rattle.spdx_meaning.specs.Made.{count_made, join_sets, made_of, made_beside, made_from, made_by}
use Rattle.spdx_meaning.specs.Stack.{sets_at, stack_in, AreFew, pushed, join_top}

abbrev then : {A B : Type 0} → Result A ℕ → (A → Result B ℕ) → Result B ℕ
then (Ok x) g = g x
then (Err n) g = Err n

abbrev pub Sets : Type 0
Sets = List (List ℕ)

-- what the nodes make of a stack, the newest first
abbrev pub run : (Requirement → ℕ) → List Node → List Sets → Result (List Sets) ℕ
run f [] stack = Ok stack
run f (Req r ∷ ns) stack = run f ns (((f r ∷ []) ∷ []) ∷ stack)
run f (Op o ∷ ns) stack = then (join_top o stack) (λ z. run f ns z)

module _ (f : Requirement → ℕ) where
  joined_then : (o : Operator) (ls rs : Sets) (ns : List Node) (stack : List Sets) (made : Result Sets ℕ) → then (pushed made stack) (λ z. run f ns z) ≡ then made (λ s. run f ns (s ∷ stack))
  joined_then o ls rs ns stack (Ok s) = refl
  joined_then o ls rs ns stack (Err n) = refl

  run_postfix : (t : Tree) (ns : List Node) (stack : List Sets) → run f (postfix t ++ ns) stack ≡ then (made_by f t) (λ s. run f ns (s ∷ stack))
  run_postfix (Leaf r) ns stack = refl
  run_postfix (Join o l r) ns stack =
      ap (λ (z : List Node). run f z stack) (regroup o l r ns)
      ∙ run_postfix l (postfix r ++ Op o ∷ ns) stack
      ∙ left (made_by f l) (λ ls. run_postfix r (Op o ∷ ns) (ls ∷ stack))
    where
      right : (ls : Sets) (made : Result Sets ℕ) → then made (λ rs. run f (Op o ∷ ns) (rs ∷ ls ∷ stack)) ≡ then (made_beside o ls made) (λ s. run f ns (s ∷ stack))
      right ls (Ok rs) = joined_then o ls rs ns stack (made_of o ls rs)
      right ls (Err n) = refl

      left : (made : Result Sets ℕ) → ((ls : Sets) → run f (postfix r ++ Op o ∷ ns) (ls ∷ stack) ≡ then (made_by f r) (λ rs. run f (Op o ∷ ns) (rs ∷ ls ∷ stack)))
          → then made (λ ls. run f (postfix r ++ Op o ∷ ns) (ls ∷ stack)) ≡ then (made_from o made (made_by f r)) (λ s. run f ns (s ∷ stack))
      left (Ok ls) h = h ls ∙ right ls (made_by f r)
      left (Err n) h = refl

  whole : (t : Tree) (nodes : List ExprNode) → map node_of nodes ≡ postfix t → run f (map node_of nodes) [] ≡ then (made_by f t) (λ s. Ok (s ∷ []))
  whole t nodes e = ap (λ (z : List Node). run f z []) (e ∙ sym (append-nil (postfix t))) ∙ run_postfix t [] []

of_run : (made : Result Sets ℕ) (stack : List Sets) (s : Sets) (rest : List Sets) → then made (λ z. Ok (z ∷ [])) ≡ Ok stack → stack ≡ s ∷ rest → made ≡ Ok s
of_run (Ok z) stack s rest e h =
    let same : ◌≡◌ {A = Result (List Sets) ℕ} (Ok (z ∷ [])) (Ok (s ∷ rest)) = e ∙ ap Ok h in
    cc
of_run (Err n) stack s rest e h = cc

of_fault : (made : Result Sets ℕ) (n : ℕ) → ◌≡◌ {A = Result (List Sets) ℕ} (then made (λ z. Ok (z ∷ []))) (Err n) → made ≡ Err n
of_fault (Ok z) n e = cc
of_fault (Err m) n e = cc

-- ---- how many

few_of : (o : Operator) (ls rs : Sets) → length (join_sets o ls rs) ≤ count_made o (length ls) (length rs)
few_of And ls rs = length-both ls rs
few_of Or ls rs = length-either ls rs

joined_few : (o : Operator) (ls rs : Sets) (stack new : List Sets) → AreFew stack → pushed (made_of o ls rs) stack ≡ Ok new → AreFew new
joined_few o ls rs stack new h e = cases (nat_lt 4096 (count_made o (length ls) (length rs))) refl
  where
    n : ℕ
    n = count_made o (length ls) (length rs)

    cases : (b : Bool) → nat_lt 4096 n ≡ b → AreFew new
    cases true k =
        let bad : ◌≡◌ {A = Result (List Sets) ℕ} (Err n) (Ok new) = sym (ap (λ (z : Bool). pushed (cond z (Err n) (Ok (join_sets o ls rs))) stack) k) ∙ e in
        cc
    cases false k =
        let there : ◌≡◌ {A = Result (List Sets) ℕ} (Ok (join_sets o ls rs ∷ stack)) (Ok new) = sym (ap (λ (z : Bool). pushed (cond z (Err n) (Ok (join_sets o ls rs))) stack) k) ∙ e in
        let is : join_sets o ls rs ∷ stack ≡ new = cc in
        let most : n ≤ 4096 = grind (arith, nat_tests, k) in
        subst AreFew is (omega (arith, few_of o ls rs, most), h)

pub top_few : (o : Operator) (stack new : List Sets) → 2 ≤ length stack → AreFew stack → join_top o stack ≡ Ok new → AreFew new
top_few o [] new two h e = absurd (omega arith)
top_few o (r ∷ []) new two h e = absurd (omega arith)
top_few o (r ∷ l ∷ stack) new two h e = joined_few o l r stack new h.1.1 e

pushed_one : (made : Result Sets ℕ) (stack new : List Sets) → pushed made stack ≡ Ok new → length new ≡ length stack + 1
pushed_one (Ok s) stack new e = let is : s ∷ stack ≡ new = cc in sym (ap length is) ∙ (let k : length (s ∷ stack) ≡ length stack + 1 = omega arith in k)
pushed_one (Err n) stack new e = cc

pub top_length : (o : Operator) (stack new : List Sets) → 2 ≤ length stack → join_top o stack ≡ Ok new → length new ≡ length stack - 1
top_length o [] new two e = absurd (omega arith)
top_length o (r ∷ []) new two e = absurd (omega arith)
top_length o (r ∷ l ∷ stack) new two e = omega (arith, pushed_one (made_of o l r) stack new e)

-- ---- after some of the nodes

-- after i nodes, of which so many are requirements
pub record Making (nodes : List ExprNode) (i : ℕ) (numbers : List ℕ) (number : ℕ) (stack : List Sets) : Type 0 where
  pub same : (f : Requirement → ℕ) → numbers ≡ map f (leaves (tree_in nodes)) → run f (map node_of nodes) [] ≡ run f (map node_of (drop i nodes)) stack
  pub due : (f : Requirement → ℕ) → numbers ≡ map f (leaves (tree_in nodes)) → map f (map requirement_at (requirements_in (drop i nodes))) ≡ drop number numbers
  pub left : number + length (requirements_in (drop i nodes)) ≡ length numbers
  pub enough : LeavesOne (map node_of (drop i nodes)) (length stack)
  pub few : AreFew stack

pub begins : (nodes : List ExprNode) (numbers : List ℕ) (stack : List Sets) → IsPostfix (map node_of nodes) → length numbers ≡ length (leaves (tree_in nodes)) → stack ≡ [] → Making nodes 0 numbers 0 stack
begins nodes numbers stack e each empty =
    let t = tree_in nodes in
    record {
      same = λ f is. ap (run f (map node_of nodes)) (sym empty);
      due = λ f is. ap (λ (z : List Requirement). map f z) (requirements_of_tree nodes t e) ∙ sym is;
      left = omega (arith, each_leaf nodes t e, each);
      enough =
          let n : 0 ≡ length stack = sym (ap length empty) in
          let all : postfix t ++ [] ≡ map node_of nodes = append-nil (postfix t) ∙ sym e in
          subst (λ (z : List Node). LeavesOne z (length stack)) all (leaves_one_postfix t [] (length stack) (omega arith));
      few = subst AreFew (sym empty) tt;
    }

-- the nodes from i on, where i holds n
nodes_from : (nodes : List ExprNode) (i : ℕ) (d n : ExprNode) → i < length nodes → get_or nodes i d ≡ n → drop i nodes ≡ n ∷ drop (i + 1) nodes
nodes_from nodes i d n lt is = drop_more nodes i d lt ∙ ap (λ (z : ExprNode). z ∷ drop (i + 1) nodes) is

-- a requirement has its number
pub number_there : (nodes : List ExprNode) (i : ℕ) (numbers : List ℕ) (number : ℕ) (stack : List Sets) (d : ExprNode) (r : ExpressionReq)
    → Making nodes i numbers number stack → i < length nodes → get_or nodes i d ≡ ExprNode.Req r → number < length numbers
number_there nodes i numbers number stack d r v lt is = omega (arith, v.left, ap (λ (z : List ExprNode). length (requirements_in z)) (nodes_from nodes i d (ExprNode.Req r) lt is))

pub reads_requirement : (nodes : List ExprNode) (i : ℕ) (numbers : List ℕ) (number k : ℕ) (stack new : List Sets) (d : ExprNode) (r : ExpressionReq)
    → Making nodes i numbers number stack → i < length nodes → get_or nodes i d ≡ ExprNode.Req r → k ≡ get_or numbers number 0 → new ≡ ((k ∷ []) ∷ []) ∷ stack → Making nodes (i + 1) numbers (number + 1) new
reads_requirement nodes i numbers number k stack new d r v lt is at made =
    let tail = nodes_from nodes i d (ExprNode.Req r) lt is in
    let there = number_there nodes i numbers number stack d r v lt is in
    let split = drop_more numbers number 0 there in
    let one_more : length new ≡ length stack + 1 = ap length made ∙ (let z : length (((k ∷ []) ∷ []) ∷ stack) ≡ length stack + 1 = omega arith in z) in
    let parts : (f : Requirement → ℕ) → numbers ≡ map f (leaves (tree_in nodes)) → f (requirement_at r) ∷ map f (map requirement_at (requirements_in (drop (i + 1) nodes))) ≡ get_or numbers number 0 ∷ drop (number + 1) numbers =
    λ f e. sym (ap (λ (z : List ExprNode). map f (map requirement_at (requirements_in z))) tail) ∙ v.due f e ∙ split in
    record {
      same = λ f e.
          let head : f (requirement_at r) ≡ k = (let p = parts f e in let h : f (requirement_at r) ≡ get_or numbers number 0 = cc in h) ∙ sym at in
          v.same f e
          ∙ ap (λ (z : List ExprNode). run f (map node_of z) stack) tail
          ∙ ap (λ (z : ℕ). run f (map node_of (drop (i + 1) nodes)) (((z ∷ []) ∷ []) ∷ stack)) head
          ∙ ap (run f (map node_of (drop (i + 1) nodes))) (sym made);
      due = λ f e. let p = parts f e in cc;
      left = omega (arith, v.left, ap (λ (z : List ExprNode). length (requirements_in z)) tail);
      enough =
          let before : LeavesOne (map node_of (ExprNode.Req r ∷ drop (i + 1) nodes)) (length stack) = subst (λ (z : List ExprNode). LeavesOne (map node_of z) (length stack)) tail v.enough in
          subst (λ (n : ℕ). LeavesOne (map node_of (drop (i + 1) nodes)) n) (sym one_more) before;
      few = subst AreFew (sym made) (omega arith, v.few);
    }

-- at an operator there are two lists
pub two_there : (nodes : List ExprNode) (i : ℕ) (numbers : List ℕ) (number : ℕ) (stack : List Sets) (d : ExprNode) (o : Operator)
    → Making nodes i numbers number stack → i < length nodes → get_or nodes i d ≡ ExprNode.Op o → 2 ≤ length stack
two_there nodes i numbers number stack d o v lt is =
    let before : LeavesOne (Op o ∷ map node_of (drop (i + 1) nodes)) (length stack) = subst (λ (z : List ExprNode). LeavesOne (map node_of z) (length stack)) (nodes_from nodes i d (ExprNode.Op o) lt is) v.enough in
    before.0

module _ (nodes : List ExprNode) (i : ℕ) (numbers : List ℕ) (number : ℕ) (stack : List Sets) (d : ExprNode) (o : Operator) (v : Making nodes i numbers number stack) (lt : i < length nodes) (is : get_or nodes i d ≡ ExprNode.Op o) where
  at_operator : (f : Requirement → ℕ) → numbers ≡ map f (leaves (tree_in nodes)) → run f (map node_of nodes) [] ≡ then (join_top o stack) (λ z. run f (map node_of (drop (i + 1) nodes)) z)
  at_operator f e = v.same f e ∙ ap (λ (z : List ExprNode). run f (map node_of z) stack) (nodes_from nodes i d (ExprNode.Op o) lt is)

  pub reads_operator : (new : List Sets) → join_top o stack ≡ Ok new → Making nodes (i + 1) numbers number new
  reads_operator new made =
      let tail = nodes_from nodes i d (ExprNode.Op o) lt is in
      let two = two_there nodes i numbers number stack d o v lt is in
      let before : LeavesOne (Op o ∷ map node_of (drop (i + 1) nodes)) (length stack) = subst (λ (z : List ExprNode). LeavesOne (map node_of z) (length stack)) tail v.enough in
      record {
        same = λ f e. at_operator f e ∙ ap (λ (z : Result (List Sets) ℕ). then z (λ y. run f (map node_of (drop (i + 1) nodes)) y)) made;
        due = λ f e. sym (ap (λ (z : List ExprNode). map f (map requirement_at (requirements_in z))) tail) ∙ v.due f e;
        left = omega (arith, v.left, ap (λ (z : List ExprNode). length (requirements_in z)) tail);
        enough = subst (λ (n : ℕ). LeavesOne (map node_of (drop (i + 1) nodes)) n) (sym (top_length o stack new two made)) before.1;
        few = top_few o stack new two v.few made;
      }

  pub refuses : (n : ℕ) → join_top o stack ≡ Err n → IsPostfix (map node_of nodes) → (f : Requirement → ℕ) → numbers ≡ map f (leaves (tree_in nodes)) → made_by f (tree_in nodes) ≡ Err n
  refuses n made tree f e =
      of_fault (made_by f (tree_in nodes)) n
      (sym (whole f (tree_in nodes) nodes tree) ∙ at_operator f e ∙ ap (λ (z : Result (List Sets) ℕ). then z (λ y. run f (map node_of (drop (i + 1) nodes)) y)) made)

-- ---- at the end

none_left : (nodes : List ExprNode) (i : ℕ) → length nodes ≤ i → map node_of (drop i nodes) ≡ []
none_left nodes i le = ap (λ (z : List ExprNode). map node_of z) (drop_all i nodes le)

pub one_left : (nodes : List ExprNode) (i : ℕ) (numbers : List ℕ) (number : ℕ) (stack : List Sets) → Making nodes i numbers number stack → length nodes ≤ i → length stack ≡ 1
one_left nodes i numbers number stack v le = subst (λ (z : List Node). LeavesOne z (length stack)) (none_left nodes i le) v.enough

pub finishes : (nodes : List ExprNode) (i : ℕ) (numbers : List ℕ) (number : ℕ) (stack : List Sets) (s : Sets) (rest : List Sets)
    → Making nodes i numbers number stack → length nodes ≤ i → IsPostfix (map node_of nodes) → stack ≡ s ∷ rest → (f : Requirement → ℕ) → numbers ≡ map f (leaves (tree_in nodes)) → made_by f (tree_in nodes) ≡ Ok s
finishes nodes i numbers number stack s rest v le tree top f e =
    of_run (made_by f (tree_in nodes)) stack s rest
    (sym (whole f (tree_in nodes) nodes tree) ∙ v.same f e ∙ ap (λ (z : List Node). run f z stack) (none_left nodes i le)) top

-- the last of a list is the newest
pub newest_first : (vs rest : List (Vec (Vec ℕ))) (v : Vec (Vec ℕ)) → vs ≡ rest ++ v ∷ [] → stack_in vs ≡ sets_at v ∷ stack_in rest
newest_first vs rest v e = ap stack_in e ∙ ap reverse (map-append sets_at rest (v ∷ [])) ∙ reverse-append (map sets_at rest) (sets_at v ∷ [])

pub get_or-map : {X Y : Type 0} (g : X → Y) (xs : List X) (k : ℕ) (d : X) (e : Y) → k < length xs → get_or (map g xs) k e ≡ g (get_or xs k d)
get_or-map g [] k d e h = absurd (omega arith)
get_or-map g (x ∷ xs) zero d e h = refl
get_or-map g (x ∷ xs) (suc k) d e h = get_or-map g xs k d e (omega arith)
