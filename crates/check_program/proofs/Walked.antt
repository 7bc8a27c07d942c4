-- What is done with all that a walk comes to, one after the other.
use Rattle.std.proofs.Common.{ℕ, List, [], ◌∷◌, ◌++◌, Option, Some, None, subst}
use Rattle.std.proofs.lemmas.List.{append-nil}
use Rattle.line_engine.specs.Device.{Told}
use Rattle.shelves.specs.Shelf.{Shelved}
use Rattle.source_trees.specs.declared.stops.Stop.{Stop}
use Rattle.source_trees.specs.declared.reading.Taken.{Taken}
use Rattle.source_trees.specs.declared.walk.Seen.{Seen}
use Rattle.source_trees.specs.Walks.{IsNext}
use Rattle.source_trees.specs.Walks as walk
use Rattle.source_trees.proofs.AllBelow.{finished}
use Rattle.spdx_check.specs.declared.check.Check.{Check}
use Rattle.check_files.specs.declared.trouble.CheckTrouble.{CheckTrouble}
use Rattle.check_files.specs.Noted.{Notes}
use Rattle.check_files.specs.Tally.{Tally}
use Rattle.check_files.specs.Told.{Account, Does, Hears}
use Rattle.check_files.proofs.Doing.{both, hears_trans, nothing}
use Rattle.check_program.specs.Steps as steps
use Rattle.check_program.specs.Steps.{AreSteps, IsSeenStep, IsSoFar, IsWalked}

-- nothing is told before
pub behind_silence : (out out' : Told) (h k l : Account CheckTrouble) (Is : List ℕ → List CheckTrouble → Type 0) → Hears h k [] → Does out out' k l Is → Does out out' h l Is
behind_silence out out' h k l Is none d = record { text = d.text; told = d.told; writes = d.writes; tells = hears_trans h k l [] d.told none d.tells; is = d.is }

-- nor behind
pub before_silence : (out out' : Told) (h k l : Account CheckTrouble) (Is : List ℕ → List CheckTrouble → Type 0) → Does out out' h k Is → Hears k l [] → Does out out' h l Is
before_silence out out' h k l Is d none =
    record { text = d.text; told = d.told; writes = d.writes; tells = subst (λ (ts : List CheckTrouble). Hears h l ts) (append-nil d.told) (hears_trans h k l d.told [] d.tells none); is = d.is }

module _ (s : Shelved) (check : Check) (t : Taken) (folder : Option (List ℕ)) where
  -- a walk is at its beginning
  pub begun : (stops : List Stop) (old : Tally) (noted : Notes) (out : Told) (heard : Account CheckTrouble) → IsSoFar s check t folder stops stops old noted out out heard heard old noted
  begun stops old noted out heard = record {
    all = [];
    came = walk.nothing_taken;
    does = nothing out heard (λ text told. AreSteps s check t folder [] old noted text told old noted) steps.none;
  }

  -- it came to one thing more
  pub further : (stops now after : List Stop) (x : Seen) (old between new : Tally) (noted notes noted' : Notes) (a b c : Told) (h k l m : Account CheckTrouble)
      → IsSoFar s check t folder stops now old noted a b h k between notes → IsNext s now (Some x) after → Hears k l []
      → Does b c l m (λ text told. IsSeenStep s check t folder x between notes text told new noted') → IsSoFar s check t folder stops after old noted a c h m new noted'
  further stops now after x old between new noted notes noted' a b c h k l m far is silent d = record {
    all = far.all ++ x ∷ [];
    came = walk.then_taken x far.came is;
    does =
        both a b c h k m
        (λ text told. AreSteps s check t folder far.all old noted text told between notes)
        (λ text told. IsSeenStep s check t folder x between notes text told new noted')
        (λ text told. AreSteps s check t folder (far.all ++ x ∷ []) old noted text told new noted')
        far.does (behind_silence b c k l m (λ text told. IsSeenStep s check t folder x between notes text told new noted') silent d)
        (λ text told own own_told p q. steps.more x own own_told p q);
  }

  -- it is at its end
  pub ended : (stops now after : List Stop) (old new : Tally) (noted noted' : Notes) (a b : Told) (h k l : Account CheckTrouble)
      → IsSoFar s check t folder stops now old noted a b h k new noted' → IsNext s now None after → Hears k l [] → IsWalked s check t folder stops old noted a b h l new noted'
  ended stops now after old new noted noted' a b h k l far is silent = record {
    all = far.all;
    sees = finished s stops now far.all far.came is;
    does = before_silence a b h k l (λ text told. AreSteps s check t folder far.all old noted text told new noted') far.does silent;
  }
