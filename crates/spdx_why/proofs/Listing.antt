-- What holds after some of the nodes were read: of the trees that they leave, what is missing, and the parts that are kept.
use Rattle.std.proofs.Common.{◌≡◌, ℕ, zero, suc, ◌+◌, ◌-◌, ◌<◌, ◌≤◌, Bool, true, false, cond, List, [], ◌∷◌, ◌++◌, length, take, drop, map, refl, sym, ◌∙◌, ap, subst, arith, get_or}
use Rattle.std.proofs.lemmas.List.{append-nil, append_assoc, length-append, drop_more, drop_all}
use Rattle.spdx_requirement.specs.Items.{requirement_of}
use Rattle.spdx_parser.specs.declared.node.Operator.{Operator}
use Rattle.spdx_parser.specs.declared.node.ExpressionReq.{ExpressionReq}
use Rattle.spdx_parser.specs.declared.node.ExprNode.{ExprNode}
use Rattle.spdx_parser.specs.Tree.{Tree, Leaf, Node, postfix, leaves, node_of}
use Rattle.spdx_evaluation.specs.Postfix.{join_trees, trees_behind, tree_in, newest}
use Rattle.spdx_evaluation.specs.Truth.{joined}
use Rattle.spdx_evaluation.specs.Requirements.{requirements_in}
use Rattle.spdx_evaluation.proofs.Machine.{LeavesOne, leaves_one_postfix}
use Rattle.spdx_minimize.proofs.Asking.{each_leaf}
use Rattle.spdx_why.specs.declared.marks.Mark.{Mark}
use Rattle.spdx_why.specs.declared.parts.Part.{Part}
use Rattle.spdx_why.specs.Marks.{allows}
use Rattle.spdx_why.specs.Missing.{answer_in, truth_from, missing_from, missing_of}

-- of trees, the newest first: how many requirements they have
abbrev pub leaf_count : List Tree → ℕ
leaf_count [] = 0
leaf_count (t ∷ ts) = leaf_count ts + length (leaves t)

-- what is missing of them, the oldest first
abbrev pub missing_in : (ℕ → Bool) → List Tree → List ℕ
missing_in a [] = []
missing_in a (t ∷ ts) = missing_in a ts ++ missing_from a (leaf_count ts) t

-- the parts that they are, the oldest first
abbrev pub parts_of : (ℕ → Bool) → List Tree → List Part
parts_of a [] = []
parts_of a (t ∷ ts) = parts_of a ts ++ record { truth = truth_from a (leaf_count ts) t; from = length (missing_in a ts) } ∷ []

-- after i nodes, of which `number` are requirements
pub record Listing (answers : List Bool) (nodes : List ExprNode) (i number : ℕ) (missing : List ℕ) (parts : List Part) : Type 0 where
  pub trees : List Tree
  pub read : trees_behind (map node_of nodes) [] ≡ trees_behind (map node_of (drop i nodes)) trees
  pub enough : LeavesOne (map node_of (drop i nodes)) (length trees)
  pub number_is : number ≡ leaf_count trees
  pub left : number + length (requirements_in (drop i nodes)) ≡ length answers
  pub missing_are : missing ≡ missing_in (answer_in answers) trees
  pub parts_are : parts ≡ parts_of (answer_in answers) trees

pub begins : (answers : List Bool) (nodes : List ExprNode) (missing : List ℕ) (parts : List Part) (t : Tree) → map node_of nodes ≡ postfix t → length answers ≡ length (leaves t) → missing ≡ [] → parts ≡ [] → Listing answers nodes 0 0 missing parts
begins answers nodes missing parts t e each none empty = record {
  trees = [];
  read = refl;
  enough = subst (λ (z : List Node). LeavesOne z 0) (append-nil (postfix t) ∙ sym e) (leaves_one_postfix t [] 0 (omega arith));
  number_is = refl;
  left = omega (arith, each_leaf nodes t e, each);
  missing_are = none;
  parts_are = empty;
}

-- the nodes from i on, where i holds n
pub nodes_from : (nodes : List ExprNode) (i : ℕ) (d n : ExprNode) → i < length nodes → get_or nodes i d ≡ n → drop i nodes ≡ n ∷ drop (i + 1) nodes
nodes_from nodes i d n lt is = drop_more nodes i d lt ∙ ap (λ (z : ExprNode). z ∷ drop (i + 1) nodes) is

pub requirement_there : (answers : List Bool) (nodes : List ExprNode) (i number : ℕ) (missing : List ℕ) (parts : List Part) (d : ExprNode) (r : ExpressionReq)
    → Listing answers nodes i number missing parts → i < length nodes → get_or nodes i d ≡ ExprNode.Req r → number < length answers
requirement_there answers nodes i number missing parts d r v lt is =
    omega (arith, v.left, ap (λ (z : List ExprNode). length (requirements_in z)) (nodes_from nodes i d (ExprNode.Req r) lt is))

pub reads_requirement : (answers : List Bool) (nodes : List ExprNode) (i number : ℕ) (missing more : List ℕ) (parts news : List Part) (d : ExprNode) (r : ExpressionReq)
    → Listing answers nodes i number missing parts → i < length nodes → get_or nodes i d ≡ ExprNode.Req r
    → more ≡ missing ++ cond (answer_in answers number) [] (number ∷ []) → news ≡ parts ++ record { truth = answer_in answers number; from = length missing } ∷ []
    → Listing answers nodes (i + 1) (number + 1) more news
reads_requirement answers nodes i number missing more parts news d r v lt is listed made =
    let tail = nodes_from nodes i d (ExprNode.Req r) lt is in
    let a = answer_in answers in
    record {
      trees = Leaf (requirement_of r.req) ∷ v.trees;
      read = v.read ∙ ap (λ (z : List ExprNode). trees_behind (map node_of z) v.trees) tail;
      enough =
          let before : LeavesOne (map node_of (ExprNode.Req r ∷ drop (i + 1) nodes)) (length v.trees) = subst (λ (z : List ExprNode). LeavesOne (map node_of z) (length v.trees)) tail v.enough in
          let one_more : length v.trees + 1 ≡ length (Leaf (requirement_of r.req) ∷ v.trees) = omega arith in
          subst (λ (n : ℕ). LeavesOne (map node_of (drop (i + 1) nodes)) n) one_more before;
      number_is = omega (arith, v.number_is);
      left = omega (arith, v.left, ap (λ (z : List ExprNode). length (requirements_in z)) tail);
      missing_are = listed ∙ ap (λ (z : List ℕ). z ++ cond (a number) [] (number ∷ [])) v.missing_are ∙ ap (λ (n : ℕ). missing_in a v.trees ++ cond (a n) [] (n ∷ [])) v.number_is;
      parts_are =
          made
          ∙ ap (λ (z : List Part). z ++ record { truth = a number; from = length missing } ∷ []) v.parts_are
          ∙ ap (λ (z : List ℕ). parts_of a v.trees ++ record { truth = a number; from = length z } ∷ []) v.missing_are
          ∙ ap (λ (n : ℕ). parts_of a v.trees ++ record { truth = a n; from = length (missing_in a v.trees) } ∷ []) v.number_is;
    }

-- the answer that a mark gives
pub marked : (marks : List Mark) (k : ℕ) (d : Mark) → k < length marks → allows (get_or marks k d) ≡ answer_in (map allows marks) k
marked [] k d h = absurd (omega arith)
marked (m ∷ ms) zero d h = refl
marked (m ∷ ms) (suc k) d h = marked ms k d (omega arith)

-- what a join makes of trees
pub record Joined (o : Operator) (a : ℕ → Bool) (ts : List Tree) : Type 0 where
  pub rest : List Part
  pub one : Part
  pub other : Part
  pub apart : parts_of a ts ≡ (rest ++ one ∷ []) ++ other ∷ []
  pub parts : rest ++ record { truth = joined o one.truth other.truth; from = one.from } ∷ [] ≡ parts_of a (join_trees o ts)
  pub missing : cond (joined o one.truth other.truth) (take one.from (missing_in a ts)) (missing_in a ts) ≡ missing_in a (join_trees o ts)
  pub same_count : leaf_count (join_trees o ts) ≡ leaf_count ts
  pub one_less : length (join_trees o ts) ≡ length ts - 1

take_front : (front rest : List ℕ) → take (length front) (front ++ rest) ≡ front
take_front [] rest = refl
take_front (x ∷ xs) rest = ap (λ (z : List ℕ). x ∷ z) (take_front xs rest)

cut : (b : Bool) (front xs ys : List ℕ) → cond b (take (length front) ((front ++ xs) ++ ys)) ((front ++ xs) ++ ys) ≡ front ++ cond b [] (xs ++ ys)
cut true front xs ys =
    ap (take (length front)) (append_assoc front xs ys) ∙ take_front front (xs ++ ys) ∙ sym (append-nil front)
cut false front xs ys = append_assoc front xs ys

joins : (o : Operator) (a : ℕ → Bool) (ts : List Tree) → 2 ≤ length ts → Joined o a ts
joins o a [] h = absurd (omega arith)
joins o a (t ∷ []) h = absurd (omega arith)
joins o a (r ∷ l ∷ ts) h = record {
  rest = parts_of a ts;
  one = record { truth = truth_from a (leaf_count ts) l; from = length (missing_in a ts) };
  other = record { truth = truth_from a (leaf_count ts + length (leaves l)) r; from = length (missing_in a (l ∷ ts)) };
  apart = refl;
  parts = refl;
  missing = cut (joined o (truth_from a (leaf_count ts) l) (truth_from a (leaf_count ts + length (leaves l)) r)) (missing_in a ts) (missing_from a (leaf_count ts) l) (missing_from a (leaf_count ts + length (leaves l)) r);
  same_count = omega (arith, length-append (leaves l) (leaves r));
  one_less = omega arith;
}

length-parts : (a : ℕ → Bool) (ts : List Tree) → length (parts_of a ts) ≡ length ts
length-parts a [] = refl
length-parts a (t ∷ ts) = omega (arith, length-append (parts_of a ts) (record { truth = truth_from a (leaf_count ts) t; from = length (missing_in a ts) } ∷ []), length-parts a ts)

-- at an operator there are two parts
pub two_there : (answers : List Bool) (nodes : List ExprNode) (i number : ℕ) (missing : List ℕ) (parts : List Part) (d : ExprNode) (o : Operator)
    → Listing answers nodes i number missing parts → i < length nodes → get_or nodes i d ≡ ExprNode.Op o → 2 ≤ length parts
two_there answers nodes i number missing parts d o v lt is =
    let before : LeavesOne (map node_of (ExprNode.Op o ∷ drop (i + 1) nodes)) (length v.trees) = subst (λ (z : List ExprNode). LeavesOne (map node_of z) (length v.trees)) (nodes_from nodes i d (ExprNode.Op o) lt is) v.enough in
    omega (arith, before.0, ap (λ (z : List Part). length z) v.parts_are, length-parts (answer_in answers) v.trees)

pub reads_operator : (answers : List Bool) (nodes : List ExprNode) (i number : ℕ) (missing fewer : List ℕ) (parts news : List Part) (d : ExprNode) (o : Operator)
    → Listing answers nodes i number missing parts → i < length nodes → get_or nodes i d ≡ ExprNode.Op o
    → ((rest : List Part) (one other : Part) → parts ≡ (rest ++ one ∷ []) ++ other ∷ [] → fewer ≡ cond (joined o one.truth other.truth) (take one.from missing) missing)
    → ((rest : List Part) (one other : Part) → parts ≡ (rest ++ one ∷ []) ++ other ∷ [] → news ≡ rest ++ record { truth = joined o one.truth other.truth; from = one.from } ∷ [])
    → Listing answers nodes (i + 1) number fewer news
reads_operator answers nodes i number missing fewer parts news d o v lt is listed made =
    let tail = nodes_from nodes i d (ExprNode.Op o) lt is in
    let a = answer_in answers in
    let before : LeavesOne (map node_of (ExprNode.Op o ∷ drop (i + 1) nodes)) (length v.trees) = subst (λ (z : List ExprNode). LeavesOne (map node_of z) (length v.trees)) tail v.enough in
    let j : Joined o a v.trees = joins o a v.trees before.0 in
    let there : parts ≡ (j.rest ++ j.one ∷ []) ++ j.other ∷ [] = v.parts_are ∙ j.apart in
    record {
      trees = join_trees o v.trees;
      read = v.read ∙ ap (λ (z : List ExprNode). trees_behind (map node_of z) v.trees) tail;
      enough = subst (λ (n : ℕ). LeavesOne (map node_of (drop (i + 1) nodes)) n) (sym j.one_less) before.1;
      number_is = v.number_is ∙ sym j.same_count;
      left = omega (arith, v.left, ap (λ (z : List ExprNode). length (requirements_in z)) tail);
      missing_are = listed j.rest j.one j.other there ∙ ap (λ (z : List ℕ). cond (joined o j.one.truth j.other.truth) (take j.one.from z) z) v.missing_are ∙ j.missing;
      parts_are = made j.rest j.one j.other there ∙ j.parts;
    }

one_tree : (a : ℕ → Bool) (ts : List Tree) → length ts ≡ 1 → missing_in a ts ≡ missing_from a 0 (newest ts)
one_tree a [] h = absurd (omega arith)
one_tree a (t ∷ []) h = refl
one_tree a (t ∷ u ∷ ts) h = absurd (omega arith)

-- what is listed at the end is what is missing
pub finishes : (answers : List Bool) (nodes : List ExprNode) (i number : ℕ) (missing : List ℕ) (parts : List Part)
    → Listing answers nodes i number missing parts → length nodes ≤ i → missing ≡ missing_of (tree_in nodes) answers
finishes answers nodes i number missing parts v le =
    let none : map node_of (drop i nodes) ≡ [] = ap (λ (z : List ExprNode). map node_of z) (drop_all i nodes le) in
    let one : length v.trees ≡ 1 = subst (λ (z : List Node). LeavesOne z (length v.trees)) none v.enough in
    let all : trees_behind (map node_of nodes) [] ≡ v.trees = v.read ∙ ap (λ (z : List Node). trees_behind z v.trees) none in
    v.missing_are ∙ one_tree (answer_in answers) v.trees one ∙ ap (λ (z : List Tree). missing_from (answer_in answers) 0 (newest z)) (sym all)
