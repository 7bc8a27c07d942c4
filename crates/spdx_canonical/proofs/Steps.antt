-- The steps of the walk, as the code takes them.
use Rattle.std.proofs.Common.{◌≡◌, ℕ, ◌+◌, ◌-◌, ◌<◌, ◌≤◌, List, [], ◌∷◌, ◌++◌, map, length, take, get_or, refl, sym, ◌∙◌, ap, subst, arith}
use Rattle.std.proofs.lemmas.List.{map_more, take_all}
use Rattle.std.proofs.lemmas.Option.{slice_get_read}
use Rattle.spdx_parser.specs.declared.node.ExprNode.{ExprNode}
use Rattle.spdx_parser.specs.Tree.{Tree, Node, postfix, node_of}
use Rattle.spdx_canonical.specs.declared.piece.Place.{Place}
use Rattle.spdx_canonical.specs.declared.piece.Piece.{Piece}
use Rattle.spdx_canonical.specs.declared.piece.Task.{Task}
use Rattle.spdx_canonical.specs.Normal.{normal_text}
use Rattle.spdx_canonical.specs.Plan.{text_of_option, pieces_text, pieces_for, tasks_for}
use Rattle.spdx_canonical.proofs.Walk.{Shows, node_step, write_step, never_empty, begins, finished}

module _ (ns : List ExprNode) (t : Tree) where
  -- the nodes in front of a place
  abbrev left_at : ℕ → List Node
  left_at at = map node_of (take at ns)

  -- with other names for the tasks and the pieces
  renamed : (left : List Node) (tasks ts : List Task) (pieces ps : List Piece) → Shows ns t left tasks pieces → ts ≡ tasks → ps ≡ pieces → Shows ns t left ts ps
  renamed left tasks ts pieces ps s p q = subst (λ (x : List Task). Shows ns t left x ps) (sym p) (subst (λ (x : List Piece). Shows ns t left tasks x) (sym q) s)

  on_top : (left : List Node) (tasks ts : List Task) (pieces : List Piece) (task other : Task) → Shows ns t left tasks pieces → tasks ≡ ts ++ task ∷ [] → task ≡ other → Shows ns t left (ts ++ other ∷ []) pieces
  on_top left tasks ts pieces task other s d i = subst (λ (x : List Task). Shows ns t left x pieces) (d ∙ ap (λ (x : Task). ts ++ x ∷ []) i) s

  pub begun : (ts : List Task) (ps : List Piece) → map node_of ns ≡ postfix t → ts ≡ Task.Operand Place.Whole ∷ [] → ps ≡ [] → Shows ns t (left_at (length ns)) ts ps
  begun ts ps e p q = renamed (left_at (length ns)) (Task.Operand Place.Whole ∷ []) ts [] ps (begins ns t (left_at (length ns)) (ap (map node_of) (take_all (length ns) ns (omega arith)) ∙ e)) p q

  pub written : (left : List Node) (tasks ts : List Task) (pieces ps : List Piece) (task : Task) (p : Piece) → Shows ns t left tasks pieces → tasks ≡ ts ++ task ∷ [] → task ≡ Task.Write p → ps ≡ pieces ++ p ∷ [] → Shows ns t left ts ps
  written left tasks ts pieces ps task p s d i q = renamed left ts ts (pieces ++ p ∷ []) ps (write_step ns t left ts pieces p (on_top left tasks ts pieces task (Task.Write p) s d i)) refl q

  -- the node behind those that are left is the root of the operand that is due
  pub planned : (left : ℕ) (tasks ts us : List Task) (pieces ps : List Piece) (task : Task) (place : Place) (x : ExprNode) → 0 < left → left ≤ length ns → x ≡ get_or ns (left - 1) x → Shows ns t (left_at left) tasks pieces → tasks ≡ ts ++ task ∷ [] → task ≡ Task.Operand place → us ≡ ts ++ tasks_for place (left - 1) (node_of x) → ps ≡ pieces ++ pieces_for place (left - 1) (node_of x) → Shows ns t (left_at (left - 1)) us ps
  planned left tasks ts us pieces ps task place x some within is s d i p q =
      let at = left - 1 in
      let inside : at < length ns = omega arith in
      let one : left ≡ at + 1 = omega arith in
      let last : left_at left ≡ left_at at ++ node_of x ∷ [] = ap left_at one ∙ map_more node_of ns at x inside ∙ ap (λ (y : ExprNode). left_at at ++ node_of y ∷ []) (sym is) in
      let found = slice_get_read ns (length ns) at x refl inside is in
      renamed (left_at at) (ts ++ tasks_for place at (node_of x)) us (pieces ++ pieces_for place at (node_of x)) ps
      (node_step ns t (left_at at) ts pieces place at (node_of x) (ap text_of_option found) (subst (λ (l : List Node). Shows ns t l (ts ++ Task.Operand place ∷ []) pieces) last (on_top (left_at left) tasks ts pieces task (Task.Operand place) s d i)))
      p q

  pub none_left : (left : ℕ) (tasks ts : List Task) (pieces : List Piece) (task : Task) (place : Place) → left ≤ 0 → Shows ns t (left_at left) tasks pieces → tasks ≡ ts ++ task ∷ [] → task ≡ Task.Operand place → ⊥
  none_left left tasks ts pieces task place h s d i =
      let z : left ≡ 0 = omega arith in
      never_empty ns t ts pieces place (subst (λ n. Shows ns t (left_at n) (ts ++ Task.Operand place ∷ []) pieces) z (on_top (left_at left) tasks ts pieces task (Task.Operand place) s d i))

  pub done : (left : List Node) (tasks : List Task) (pieces : List Piece) → Shows ns t left tasks pieces → tasks ≡ [] → pieces_text ns pieces ≡ normal_text t
  done left tasks pieces s e = finished ns t left pieces (subst (λ (x : List Task). Shows ns t left x pieces) e s)
