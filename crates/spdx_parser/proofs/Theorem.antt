-- From the two halves: where words begin an expression, and where they mean one.
use Rattle.std.proofs.Common.{◌≡◌, false, List, [], ◌∷◌, ◌++◌, Option, Some, None, refl, sym, ◌∙◌, ap, subst, append_assoc}
use Rattle.spdx_requirement.specs.Rows.{Rows, LicenseRow}
use Rattle.spdx_requirement.specs.Items.{LicenseTerm, listed, referred, added}
use Rattle.spdx_lexer.specs.declared.token.ParseMode.{ParseMode}
use Rattle.spdx_lexer.specs.Words.{Word, LicenseRef, AdditionRef, CloseParen}
use Rattle.spdx_parser.specs.Tree.{Tree}
use Rattle.spdx_parser.specs.Grammar.{Derives, IsViable, IsTheTree}
use Rattle.spdx_parser.proofs.Machine
use Rattle.spdx_parser.proofs.Runs
use Rattle.spdx_parser.proofs.Machine.{Frame, State, Part}
use Rattle.spdx_parser.proofs.Complete.{complete, the_only}
use Rattle.spdx_parser.proofs.Sound.{sound, run_none}

-- a parenthesis for each frame around
abbrev closes : List Frame → List Word
closes [] = []
closes (f ∷ fs) = CloseParen ∷ closes fs

module _ (c : Rows) (m : ParseMode) where
  -- words that end an expression in this state, and the tree then
  abbrev Ends : Part → Frame → List Frame → Type 0
  Ends p f fs = (more : List Word) × (t : Tree) × (Runs.parsed c m (record { part = p; frame = f; outer = fs }) more ≡ Some t)

  close_all : (fs : List Frame) (f : Frame) (t : Tree) → (final : Tree) × (Runs.parsed c m (record { part = Machine.Whole t; frame = f; outer = fs }) (closes fs) ≡ Some final)
  close_all [] f t = (Machine.close_frame f t, refl)
  close_all (g ∷ gs) f t = close_all gs g (Machine.close_frame f t)

  named_ends : (l : LicenseTerm) (f : Frame) (fs : List Frame) → (final : Tree) × (Runs.parsed c m (record { part = Machine.Named l; frame = f; outer = fs }) (closes fs) ≡ Some final)
  named_ends l f [] = (Machine.close_frame f (Machine.bare_leaf l), refl)
  named_ends l f (g ∷ gs) = close_all gs g (Machine.close_frame f (Machine.bare_leaf l))

  fresh_ends : (r : LicenseRow) (f : Frame) (fs : List Frame) → (final : Tree) × (Runs.parsed c m (record { part = Machine.Fresh r; frame = f; outer = fs }) (closes fs) ≡ Some final)
  fresh_ends r f [] = (Machine.close_frame f (Machine.bare_leaf (listed r false)), refl)
  fresh_ends r f (g ∷ gs) = close_all gs g (Machine.close_frame f (Machine.bare_leaf (listed r false)))

  -- each state ends
  ends : (p : Part) (f : Frame) (fs : List Frame) → Ends p f fs
  ends Machine.Due f fs = let e = named_ends (referred (record { document = None; name = [] })) f fs in (LicenseRef None [] ∷ closes fs, e.0, e.1)
  ends (Machine.Fresh r) f fs = let e = fresh_ends r f fs in (closes fs, e.0, e.1)
  ends (Machine.Named l) f fs = let e = named_ends l f fs in (closes fs, e.0, e.1)
  ends (Machine.Joined l) f fs = let e = close_all fs f (Machine.joined_leaf l (added (record { document = None; name = [] }))) in (AdditionRef None [] ∷ closes fs, e.0, e.1)
  ends (Machine.Whole t) f fs = let e = close_all fs f t in (closes fs, e.0, e.1)

  run-append : (o : Option State) (xs ys : List Word) → Runs.run c m o (xs ++ ys) ≡ Runs.run c m (Runs.run c m o xs) ys
  run-append o [] ys = refl
  run-append o (x ∷ xs) ys = run-append (Runs.step_on c m o x) xs ys

  -- the machine after a front, and then after what follows
  pub run_front : (xs ys : List Word) (o : Option State) → Runs.run c m (Some Machine.start) xs ≡ o → Runs.run c m (Some Machine.start) (xs ++ ys) ≡ Runs.run c m o ys
  run_front xs ys o e = run-append (Some Machine.start) xs ys ∙ ap (λ s. Runs.run c m s ys) e

  pub viable : (ws : List Word) (s : State) → Runs.run c m (Some Machine.start) ws ≡ Some s → IsViable c m ws
  viable ws s e =
      let e' = ends s.part s.frame s.outer in
      (e'.0, e'.1, sound c m e'.1 (ws ++ e'.0) (ap Runs.built_on (run_front ws e'.0 (Some s) e) ∙ e'.2))

  -- words that the machine refuses are the front of no expression
  pub not_viable : (ws more : List Word) (t : Tree) → Runs.run c m (Some Machine.start) ws ≡ None → Derives c m (ws ++ more) t → ⊥
  not_viable ws more t e d =
      let a : Runs.built_on None ≡ Some t = sym (ap Runs.built_on (run_front ws more None e ∙ run_none c m more)) ∙ complete c m (ws ++ more) t d in cc

  -- the tree that the machine builds
  pub the_tree : (ws : List Word) (t : Tree) → Runs.parsed c m Machine.start ws ≡ Some t → IsTheTree c m ws t
  the_tree ws t e = the_only c m ws t (sound c m t ws e)

  -- where it builds none, there is none
  pub no_tree : (ws : List Word) (s : State) → Runs.run c m (Some Machine.start) ws ≡ Some s → Machine.built s ≡ None → (t : Tree) → Derives c m ws t → ⊥
  no_tree ws s e refused t d = let a : Runs.built_on (Some s) ≡ Some t = sym (ap Runs.built_on e) ∙ complete c m ws t d in let b : Machine.built s ≡ Some t = a in cc

  -- beginnings of a beginning are beginnings
  pub viable_front : (xs ys : List Word) → IsViable c m (xs ++ ys) → IsViable c m xs
  viable_front xs ys (more, t, d) = (ys ++ more, t, subst (λ ws. Derives c m ws t) (append_assoc xs ys more) d)
