-- The walk over a postfix list from its last node to its first.
use Rattle.std.proofs.Common.{◌≡◌, ℕ, Bool, true, false, cond, List, [], ◌∷◌, ◌++◌, refl, sym, ◌∙◌, ap, subst, append_assoc, append-nil}
use Rattle.std.specs.Prelude.{codes}
use Rattle.std.proofs.lemmas.List.{same_from_push}
use Rattle.spdx_parser.specs.declared.node.Operator.{Operator}
use Rattle.spdx_parser.specs.declared.node.Operator.TheVariants.{And, Or}
use Rattle.spdx_parser.specs.declared.node.ExprNode.{ExprNode}
use Rattle.spdx_parser.specs.Tree.{Tree, Leaf, Join, Node, Op, Req, postfix}
use Rattle.spdx_requirement.specs.Items.{Requirement}
use Rattle.spdx_requirement.specs.Texts.{requirement_text}
use Rattle.spdx_canonical.specs.declared.piece.Place.{Place}
use Rattle.spdx_canonical.specs.declared.piece.Piece.{Piece}
use Rattle.spdx_canonical.specs.declared.piece.Task.{Task}
use Rattle.spdx_canonical.specs.Normal.{root, in_parens_if, normal_text}
use Rattle.spdx_canonical.specs.Plan.{node_text, piece_text, pieces_text, needs_parens, pieces_for, tasks_for}

-- a task, of which it is known what its operand is
pub data Work : Type 0 where
  Operand : Place → Tree → Work
  Written : Piece → Work

abbrev pub task_of : Work → Task
task_of (Operand place t) = Task.Operand place
task_of (Written p) = Task.Write p

abbrev pub work_nodes : Work → List Node
work_nodes (Operand place t) = postfix t
work_nodes (Written p) = []

-- of works, of which the last in the text comes first
abbrev pub tasks_of : List Work → List Task
tasks_of [] = []
tasks_of (w ∷ ws) = tasks_of ws ++ task_of w ∷ []

abbrev pub works_nodes : List Work → List Node
works_nodes [] = []
works_nodes (w ∷ ws) = works_nodes ws ++ work_nodes w

not_push : {A : Type 0} (xs : List A) (x : A) → [] ≡ xs ++ x ∷ [] → ⊥
not_push [] x e = cc
not_push (a ∷ xs) x e = cc

-- a tree's nodes end with its root
abbrev front : Tree → List Node
front (Leaf r) = []
front (Join o l r) = postfix l ++ postfix r

postfix_is : (t : Tree) → postfix t ≡ front t ++ root t ∷ []
postfix_is (Leaf r) = refl
postfix_is (Join o l r) = sym (append_assoc (postfix l) (postfix r) (Op o ∷ []))

ends : (ws : List Work) (t : Tree) → works_nodes ws ++ postfix t ≡ (works_nodes ws ++ front t) ++ root t ∷ []
ends ws t = ap (λ (x : List Node). works_nodes ws ++ x) (postfix_is t) ∙ sym (append_assoc (works_nodes ws) (front t) (root t ∷ []))

-- a requirement has no parentheses anywhere
leaf_bare : (place : Place) (r : Requirement) → needs_parens place (Req r) ≡ false
leaf_bare Place.Whole r = refl
leaf_bare (Place.Left And) r = refl
leaf_bare (Place.Left Or) r = refl
leaf_bare (Place.Right And) r = refl
leaf_bare (Place.Right Or) r = refl

-- ---- regrouped

grouped_text : (w o l a r c p : List ℕ) → ((((w ++ o) ++ l) ++ a) ++ r) ++ (c ++ p) ≡ (w ++ (o ++ ((l ++ (a ++ r)) ++ c))) ++ p
grouped_text w o l a r c p = simp append_assoc

bare_text : (w l a r p : List ℕ) → (((w ++ l) ++ a) ++ r) ++ p ≡ (w ++ (l ++ (a ++ r))) ++ p
bare_text w l a r p = simp append_assoc

four : (ts : List Task) (o x y z : Task) → ts ++ (o ∷ x ∷ y ∷ z ∷ []) ≡ (((ts ++ o ∷ []) ++ x ∷ []) ++ y ∷ []) ++ z ∷ []
four ts o x y z = simp append_assoc

three : (ts : List Task) (x y z : Task) → ts ++ (x ∷ y ∷ z ∷ []) ≡ ((ts ++ x ∷ []) ++ y ∷ []) ++ z ∷ []
three ts x y z = simp append_assoc

grouped_nodes : (w x y : List Node) → w ++ (x ++ y) ≡ (((w ++ []) ++ x) ++ []) ++ y
grouped_nodes w x y = simp (append_assoc, append-nil)

bare_nodes : (w x y : List Node) → w ++ (x ++ y) ≡ ((w ++ x) ++ []) ++ y
bare_nodes w x y = simp (append_assoc, append-nil)

module _ (ns : List ExprNode) where
  abbrev pub work_text : Work → List ℕ
  work_text (Operand place t) = in_parens_if (needs_parens place (root t)) (normal_text t)
  work_text (Written p) = piece_text ns p

  abbrev pub works_text : List Work → List ℕ
  works_text [] = []
  works_text (w ∷ ws) = works_text ws ++ work_text w

  -- The nodes that are left are those of the operands that are due, and what is due, before the pieces that there are,
  -- is the normal text.
  pub record Shows (t : Tree) (left : List Node) (tasks : List Task) (pieces : List Piece) : Type 0 where
    pub works : List Work
    pub nodes : left ≡ works_nodes works
    pub due : tasks ≡ tasks_of works
    pub text : works_text works ++ pieces_text ns pieces ≡ normal_text t

  pub pieces_more : (ps : List Piece) (p : Piece) → pieces_text ns (ps ++ p ∷ []) ≡ piece_text ns p ++ pieces_text ns ps
  pieces_more [] p = sym (append-nil (piece_text ns p))
  pieces_more (q ∷ ps) p = ap (λ (x : List ℕ). x ++ piece_text ns q) (pieces_more ps p) ∙ append_assoc (piece_text ns p) (pieces_text ns ps) (piece_text ns q)

  -- ---- the task on top

  record Top (t : Tree) (left : List Node) (tasks : List Task) (pieces : List Piece) (task : Task) : Type 0 where
    work : Work
    works : List Work
    is : task ≡ task_of work
    nodes : left ≡ works_nodes works ++ work_nodes work
    due : tasks ≡ tasks_of works
    text : (works_text works ++ work_text work) ++ pieces_text ns pieces ≡ normal_text t

  top : (t : Tree) (left : List Node) (tasks : List Task) (pieces : List Piece) (task : Task) → Shows t left (tasks ++ task ∷ []) pieces → Top t left tasks pieces task
  top t left tasks pieces task s = go s.works s.nodes s.due s.text
    where
      go : (ws : List Work) → left ≡ works_nodes ws → tasks ++ task ∷ [] ≡ tasks_of ws → works_text ws ++ pieces_text ns pieces ≡ normal_text t → Top t left tasks pieces task
      go [] p d e = absurd (not_push tasks task (sym d))
      go (w ∷ ws) p d e =
          let same = same_from_push tasks (tasks_of ws) task (task_of w) d in
          record { work = w; works = ws; is = same.1; nodes = p; due = same.0; text = e }

  -- a piece goes from the tasks to the pieces
  pub write_step : (t : Tree) (left : List Node) (tasks : List Task) (pieces : List Piece) (p : Piece) → Shows t left (tasks ++ Task.Write p ∷ []) pieces → Shows t left tasks (pieces ++ p ∷ [])
  write_step t left tasks pieces p s = let d = top t left tasks pieces (Task.Write p) s in go d.work d.works d.is d.nodes d.due d.text
    where
      go : (w : Work) (ws : List Work) → Task.Write p ≡ task_of w → left ≡ works_nodes ws ++ work_nodes w → tasks ≡ tasks_of ws → (works_text ws ++ work_text w) ++ pieces_text ns pieces ≡ normal_text t → Shows t left tasks (pieces ++ p ∷ [])
      go (Operand place u) ws i q k e = absurd cc
      go (Written r) ws i q k e =
          let same : p ≡ r = cc in
          record {
            works = ws;
            nodes = q ∙ append-nil (works_nodes ws);
            due = k;
            text = ap (λ (x : List ℕ). works_text ws ++ x) (pieces_more pieces p) ∙ ap (λ (x : Piece). works_text ws ++ (piece_text ns x ++ pieces_text ns pieces)) same ∙ sym (append_assoc (works_text ws) (piece_text ns r) (pieces_text ns pieces)) ∙ e;
          }

  -- ---- an operand whose root is the last node

  record Rooted (t : Tree) (left : List Node) (tasks : List Task) (pieces : List Piece) (place : Place) (node : Node) : Type 0 where
    tree : Tree
    works : List Work
    is : node ≡ root tree
    nodes : left ≡ works_nodes works ++ front tree
    due : tasks ≡ tasks_of works
    text : (works_text works ++ in_parens_if (needs_parens place (root tree)) (normal_text tree)) ++ pieces_text ns pieces ≡ normal_text t

  rooted : (t : Tree) (left : List Node) (tasks : List Task) (pieces : List Piece) (place : Place) (node : Node) → Shows t (left ++ node ∷ []) (tasks ++ Task.Operand place ∷ []) pieces → Rooted t left tasks pieces place node
  rooted t left tasks pieces place node s = let d = top t (left ++ node ∷ []) tasks pieces (Task.Operand place) s in go d.work d.works d.is d.nodes d.due d.text
    where
      go : (w : Work) (ws : List Work) → Task.Operand place ≡ task_of w → left ++ node ∷ [] ≡ works_nodes ws ++ work_nodes w → tasks ≡ tasks_of ws → (works_text ws ++ work_text w) ++ pieces_text ns pieces ≡ normal_text t → Rooted t left tasks pieces place node
      go (Written r) ws i q k e = absurd cc
      go (Operand there u) ws i q k e =
          let same : there ≡ place = cc in
          let last = same_from_push left (works_nodes ws ++ front u) node (root u) (q ∙ ends ws u) in
          record { tree = u; works = ws; is = last.1; nodes = last.0; due = k; text = subst (λ (x : Place). (works_text ws ++ in_parens_if (needs_parens x (root u)) (normal_text u)) ++ pieces_text ns pieces ≡ normal_text t) same e }

  -- where an operand is due, there are nodes
  pub never_empty : (t : Tree) (tasks : List Task) (pieces : List Piece) (place : Place) → Shows t [] (tasks ++ Task.Operand place ∷ []) pieces → ⊥
  never_empty t tasks pieces place s = let d = top t [] tasks pieces (Task.Operand place) s in go d.work d.works d.is d.nodes
    where
      go : (w : Work) (ws : List Work) → Task.Operand place ≡ task_of w → [] ≡ works_nodes ws ++ work_nodes w → ⊥
      go (Written r) ws i q = absurd cc
      go (Operand there u) ws i q = not_push (works_nodes ws ++ front u) (root u) (q ∙ ends ws u)

  -- an operator, where parentheses are needed or not
  operator_step : (t : Tree) (left : List Node) (tasks : List Task) (pieces : List Piece) (ws : List Work) (parens : Bool) (at : ℕ) (o : Operator) (x y : Tree) → left ≡ works_nodes ws ++ (postfix x ++ postfix y) → tasks ≡ tasks_of ws
      → (works_text ws ++ in_parens_if parens (work_text (Operand (Place.Left o) x) ++ (piece_text ns (Piece.Node at) ++ work_text (Operand (Place.Right o) y)))) ++ pieces_text ns pieces ≡ normal_text t
      → Shows t left (tasks ++ (cond parens (Task.Write Piece.Open ∷ []) [] ++ (Task.Operand (Place.Left o) ∷ Task.Write (Piece.Node at) ∷ Task.Operand (Place.Right o) ∷ []))) (pieces ++ cond parens (Piece.Close ∷ []) [])
  operator_step t left tasks pieces ws true at o x y q k e = record {
    works = Operand (Place.Right o) y ∷ Written (Piece.Node at) ∷ Operand (Place.Left o) x ∷ Written Piece.Open ∷ ws;
    nodes = q ∙ grouped_nodes (works_nodes ws) (postfix x) (postfix y);
    due = ap (λ (ts : List Task). ts ++ (Task.Write Piece.Open ∷ Task.Operand (Place.Left o) ∷ Task.Write (Piece.Node at) ∷ Task.Operand (Place.Right o) ∷ [])) k ∙ four (tasks_of ws) (Task.Write Piece.Open) (Task.Operand (Place.Left o)) (Task.Write (Piece.Node at)) (Task.Operand (Place.Right o));
    text = ap (λ (p : List ℕ). ((((works_text ws ++ codes "(") ++ work_text (Operand (Place.Left o) x)) ++ piece_text ns (Piece.Node at)) ++ work_text (Operand (Place.Right o) y)) ++ p) (pieces_more pieces Piece.Close)
        ∙ grouped_text (works_text ws) (codes "(") (work_text (Operand (Place.Left o) x)) (piece_text ns (Piece.Node at)) (work_text (Operand (Place.Right o) y)) (codes ")") (pieces_text ns pieces) ∙ e;
  }
  operator_step t left tasks pieces ws false at o x y q k e = record {
    works = Operand (Place.Right o) y ∷ Written (Piece.Node at) ∷ Operand (Place.Left o) x ∷ ws;
    nodes = q ∙ bare_nodes (works_nodes ws) (postfix x) (postfix y);
    due = ap (λ (ts : List Task). ts ++ (Task.Operand (Place.Left o) ∷ Task.Write (Piece.Node at) ∷ Task.Operand (Place.Right o) ∷ [])) k ∙ three (tasks_of ws) (Task.Operand (Place.Left o)) (Task.Write (Piece.Node at)) (Task.Operand (Place.Right o));
    text = ap (λ (ps : List Piece). ((((works_text ws ++ work_text (Operand (Place.Left o) x)) ++ piece_text ns (Piece.Node at)) ++ work_text (Operand (Place.Right o) y)) ++ pieces_text ns ps)) (append-nil pieces)
        ∙ bare_text (works_text ws) (work_text (Operand (Place.Left o) x)) (piece_text ns (Piece.Node at)) (work_text (Operand (Place.Right o) y)) (pieces_text ns pieces) ∙ e;
  }

  -- the last node is planned
  pub node_step : (t : Tree) (left : List Node) (tasks : List Task) (pieces : List Piece) (place : Place) (at : ℕ) (node : Node) → piece_text ns (Piece.Node at) ≡ node_text node → Shows t (left ++ node ∷ []) (tasks ++ Task.Operand place ∷ []) pieces → Shows t left (tasks ++ tasks_for place at node) (pieces ++ pieces_for place at node)
  node_step t left tasks pieces place at node says s =
      let d = rooted t left tasks pieces place node s in
      subst (λ (n : Node). Shows t left (tasks ++ tasks_for place at n) (pieces ++ pieces_for place at n)) (sym d.is) (go d.tree d.works (says ∙ ap node_text d.is) d.nodes d.due d.text)
    where
      go : (u : Tree) (ws : List Work) → piece_text ns (Piece.Node at) ≡ node_text (root u) → left ≡ works_nodes ws ++ front u → tasks ≡ tasks_of ws → (works_text ws ++ in_parens_if (needs_parens place (root u)) (normal_text u)) ++ pieces_text ns pieces ≡ normal_text t → Shows t left (tasks ++ tasks_for place at (root u)) (pieces ++ pieces_for place at (root u))
      go (Leaf r) ws says q k e = record {
        works = ws;
        nodes = q ∙ append-nil (works_nodes ws);
        due = append-nil tasks ∙ k;
        text = ap (λ (x : List ℕ). works_text ws ++ x) (pieces_more pieces (Piece.Node at)) ∙ ap (λ (x : List ℕ). works_text ws ++ (x ++ pieces_text ns pieces)) says
            ∙ sym (append_assoc (works_text ws) (requirement_text r) (pieces_text ns pieces))
            ∙ ap (λ b. (works_text ws ++ in_parens_if b (requirement_text r)) ++ pieces_text ns pieces) (sym (leaf_bare place r)) ∙ e;
      }
      go (Join o x y) ws says q k e = operator_step t left tasks pieces ws (needs_parens place (Op o)) at o x y q k
          (ap (λ (n : List ℕ). (works_text ws ++ in_parens_if (needs_parens place (Op o)) (work_text (Operand (Place.Left o) x) ++ (n ++ work_text (Operand (Place.Right o) y)))) ++ pieces_text ns pieces) says ∙ e)

  -- the start, and the end
  pub begins : (t : Tree) (left : List Node) → left ≡ postfix t → Shows t left (Task.Operand Place.Whole ∷ []) []
  begins t left e = record { works = Operand Place.Whole t ∷ []; nodes = e; due = refl; text = append-nil (normal_text t) }

  pub finished : (t : Tree) (left : List Node) (pieces : List Piece) → Shows t left [] pieces → pieces_text ns pieces ≡ normal_text t
  finished t left pieces s = go s.works s.due s.text
    where
      go : (ws : List Work) → [] ≡ tasks_of ws → works_text ws ++ pieces_text ns pieces ≡ normal_text t → pieces_text ns pieces ≡ normal_text t
      go [] d e = e
      go (w ∷ ws) d e = absurd (not_push (tasks_of ws) (task_of w) d)
