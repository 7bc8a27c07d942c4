-- Each path, and all of them.
use Rattle.std.proofs.Common.{◌≡◌, inl, inr, sym, subst, ℕ, ◌+◌, ◌<◌, List, [], ◌∷◌, ◌++◌, get_or, length, map, take, Bor}
use Rattle.std.proofs.lemmas.List.{map_more}
use Rattle.line_engine.specs.Device.{Told}
use Rattle.shelves.specs.Shelf.{Shelved}
use Rattle.source_trees.specs.Readings.{IsNoReading, IsReading}
use Rattle.source_trees.specs.declared.reading.Reading.{Reading}
use Rattle.source_trees.specs.declared.reading.ReadingFault.{ReadingFault}
use Rattle.spdx_check.specs.declared.check.Check.{Check}
use Rattle.check_files.specs.declared.trouble.CheckTrouble.{CheckTrouble}
use Rattle.check_files.specs.Tally.{Tally}
use Rattle.check_files.specs.Told.{Account, Does}
use Rattle.check_files.proofs.Doing.{both, heard_alone, known, nothing}
use Rattle.check_program.proofs.Seeing.{passed}
use Rattle.check_program.specs.Paths as paths
use Rattle.check_program.specs.Paths.{ArePathSteps, IsPathStep, IsReadStep, PassesFault, Ways, path_in}

module _ (s : Shelved) (check : Check) (w : Ways) where
  -- the path is read
  pub as_read : (path : List ℕ) (r : Reading) (out out' : Told) (heard heard' : Account CheckTrouble) (old new : Tally) → IsReading s w.wanted path r
      → Does out out' heard heard' (λ text told. IsReadStep s check w r path old text told new) → Does out out' heard heard' (λ text told. IsPathStep s check w path old text told new)
  as_read path r out out' heard heard' old new is d =
      known out out' heard heard' (λ text told. IsReadStep s check w r path old text told new) (λ text told. IsPathStep s check w path old text told new) d (λ text told h. inl (r, is, h))

  -- it is read so
  pub as_is : (r r' : Reading) (path : List ℕ) (out out' : Told) (heard heard' : Account CheckTrouble) (old new : Tally) → r' ≡ r
      → Does out out' heard heard' (λ text told. IsReadStep s check w r path old text told new) → Does out out' heard heard' (λ text told. IsReadStep s check w r' path old text told new)
  as_is r r' path out out' heard heard' old new is d = subst (λ (x : Reading). Does out out' heard heard' (λ text told. IsReadStep s check w x path old text told new)) (sym is) d

  -- it isn't
  pub unread : (path : List ℕ) (f : ReadingFault) (out : Told) (heard heard' : Account CheckTrouble) (old new : Tally) → IsNoReading s w.wanted path f → PassesFault f heard heard' old new
      → Does out out heard heard' (λ text told. IsPathStep s check w path old text told new)
  unread path f out heard heard' old new is p =
      heard_alone out heard heard' (p.0 ∷ []) (λ text told. IsPathStep s check w path old text told new) p.2.tells
      (inr (record { fault = f; why = p.0; is_fault = is; is_why = p.1; passed = passed p.0 heard heard' old new p.2 }))

  pub begun : (out : Told) (heard : Account CheckTrouble) (old : Tally) → Does out out heard heard (λ text told. ArePathSteps s check w [] old text told old)
  begun out heard old = nothing out heard (λ text told. ArePathSteps s check w [] old text told old) paths.none

  -- one path more
  pub further : (before : List (List ℕ)) (path : List ℕ) (a b c : Told) (h k l : Account CheckTrouble) (old between new : Tally)
      → Does a b h k (λ text told. ArePathSteps s check w before old text told between) → Does b c k l (λ text told. IsPathStep s check w path between text told new)
      → Does a c h l (λ text told. ArePathSteps s check w (before ++ path ∷ []) old text told new)
  further before path a b c h k l old between new d e =
      both a b c h k l (λ text told. ArePathSteps s check w before old text told between) (λ text told. IsPathStep s check w path between text told new)
      (λ text told. ArePathSteps s check w (before ++ path ∷ []) old text told new) d e (λ text told own own_told p q. paths.more path own own_told p q)

  -- it is the next of these
  pub next : (all : List (Bor (List ℕ))) (i : ℕ) (d : Bor (List ℕ)) (a b c : Told) (h k l : Account CheckTrouble) (old between new : Tally) → i < length all
      → Does a b h k (λ text told. ArePathSteps s check w (map path_in (take i all)) old text told between)
      → Does b c k l (λ text told. IsPathStep s check w (get_or all i d).now between text told new)
      → Does a c h l (λ text told. ArePathSteps s check w (map path_in (take (i + 1) all)) old text told new)
  next all i d a b c h k l old between new lt x y =
      subst (λ (ps : List (List ℕ)). Does a c h l (λ text told. ArePathSteps s check w ps old text told new)) (sym (map_more path_in all i d lt))
      (further (map path_in (take i all)) (get_or all i d).now a b c h k l old between new x y)
