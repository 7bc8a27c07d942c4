-- The command `fix`.
use Rattle.std.proofs.Common.{◌≡◌, refl, sym, subst, ℕ, ◌<◌, false, List, [], ◌++◌, arith, map}
use Rattle.std.specs.Prelude.{All, Result, Ok, Err, IfErr, IsErrAnd, max}
use Rattle.std.proofs.KnownBytes.{Appends-nil, Appends-trans}
use Rattle.line_engine.specs.Device.{Told}
use Rattle.check_files.specs.Told.{Account, Hears, Tells}
use Rattle.check_files.proofs.Doing.{hears_nil, hears_trans}
use Rattle.shelves.specs.Shelf.{Shelved}
use Rattle.fix_program.specs.Runs as plan
use Rattle.fix_program.specs.Runs.{IsNoRun, IsRun, path_in}
use Rattle.fix_program.specs.declared.run.FixFault.{FixFault}
use Rattle.fix_program.specs.declared.run.Request.{Request}
use Rattle.fix_program.specs.declared.run.Run.{Run}
use Rattle.list_program.specs.Named.{InsideBytes}
use Rattle.spdx_commands.specs.Beside.{IsBesideTold}
use Rattle.spdx_commands.specs.Mend.{ArePathsDone, Did, IsBrokenOff, IsFix, IsFixBegun, IsFixStopped, IsMere, Stand, behind, broken, broken_off, caused, setting, stand, telling, worst}
use Rattle.spdx_commands.specs.Replaced.{Attempt}
use Rattle.spdx_commands.specs.Steps.{IsWorst}
use Rattle.spdx_commands.proofs.Besides.{beside_zero}
use Rattle.spdx_commands.proofs.Doings.{worst_append}
use Rattle.spdx_commands.proofs.Needs.{mere}
use Rattle.spdx_troubles.specs.Causes.{fix_fault_trouble}
use Rattle.spdx_troubles.specs.declared.trouble.Trouble.{Trouble}
use Rattle.spdx_troubles.specs.declared.trouble.Trouble.TheVariants as trouble

module _ (s : Shelved) (inside : InsideBytes) (a : Request) where
  -- ---- why it stops

  pub not_begun : (x : Stand) (l : Account Trouble) (cause : FixFault) → Hears x.heard l [] → IsNoRun s inside a cause → (r : Result ℕ Trouble) → IsErrAnd r (λ t. t ≡ fix_fault_trouble cause)
      → IfErr r (IsFixStopped s inside a x (stand x.output l x.tried))
  not_begun x l cause same is (Ok y) h = tt
  not_begun x l cause same is (Err t) h = subst (IsFixStopped s inside a x (stand x.output l x.tried)) (sym h) (caused cause is refl same refl)

  pub part_broken : (x y : Stand) (part : Trouble) → IsBrokenOff y.output x.tried y.tried part → Did x y (IsFixBegun s inside a) → (r : Result ℕ Trouble) → IsErrAnd r (λ t. t ≡ part)
      → IfErr r (IsFixStopped s inside a x y)
  part_broken x y part is begun (Ok z) h = tt
  part_broken x y part is begun (Err t) h = subst (IsFixStopped s inside a x y) (sym h) (broken_off part is begun)

  pub memory_broken : (x y : Stand) → Did x y (IsFixBegun s inside a) → (r : Result ℕ Trouble) → IsErrAnd r (λ t. t ≡ trouble.Memory) → IfErr r (IsFixStopped s inside a x y)
  memory_broken x y begun r h = part_broken x y trouble.Memory (broken trouble.Memory tt) begun r h

  -- ---- what it does

  greatest : (run told status : ℕ) (xs ys : List Trouble) → told ≡ worst xs → worst ys ≡ 0 → status ≡ max run told → status ≡ max run (worst (xs ++ ys))
  greatest run told status xs ys e f g = let all = worst_append xs ys in omega (arith, e, f, g, all)

  pub fix_done : (x : Stand) (out : Told) (begun h l : Account Trouble) (m : Account Attempt) (run : Run) (told status : ℕ) (beside : List Trouble) → Hears x.heard begun [] → IsRun s inside a run
      → Did (stand x.output begun x.tried) (stand out h m) (IsWorst told (ArePathsDone (setting s run.catalogue a.breaks_links) run.paths.items))
      → IsBesideTold a.is_written s (map path_in a.paths.now) beside → Hears h l beside → status ≡ max (plan.status_of run) told
      → Did x (stand out l m) (IsFix s inside a status)
  fix_done x out begun h l m run told status beside same is_run q is_beside tells is = record {
    done = behind q.done (telling beside);
    writes = Appends-trans x.output.bytes out.bytes out.bytes q.done.text [] q.writes (Appends-nil out.bytes);
    tells = hears_trans x.heard h l q.done.told beside (hears_trans x.heard begun h [] q.done.told same q.tells) tells;
    tries = hears_trans x.tried m m q.done.tried [] q.tries (hears_nil m);
    is = record {
      run = run;
      is_run = is_run;
      paths = q.done;
      are_done = q.is.is;
      beside = beside;
      is_beside = is_beside;
      done_is = refl;
      status_is = greatest (plan.status_of run) told status q.done.told beside q.is.status_is (beside_zero a.is_written s (map path_in a.paths.now) beside is_beside) is;
    };
  }

  -- ---- laws

  pub quiet : (x y : Stand) (status : ℕ) → Did x y (IsFix s inside a status) → status < 1 → Tells x.heard y.heard (All IsMere)
  quiet x y status d low =
      let is = d.is.status_is in
      record { told = d.done.told; tells = d.tells; is = mere d.done.told (omega (arith, low, is)) }

pub low_run : (run told status is : ℕ) → status ≡ max run told → run ≡ is → status < 1 → is < 1
low_run run told status is e f low = omega (arith, e, f, low)
