-- Where `fix` breaks off.
use Rattle.std.proofs.Common.{◌≡◌, ◌∙◌, refl, sym, ap, subst, List, ℕ, [], ◌∷◌, ◌++◌, String, flat_map, map}
use Rattle.std.specs.Prelude.{Result, Ok, Err, IfErr, OnErr}
use Rattle.std.specs.declared.alloc.Global.{Global}
use Rattle.std.proofs.KnownBytes.{Appends-nil, Appends-trans}
use Rattle.line_engine.specs.Device.{Told}
use Rattle.line_engine.specs.Progress.{AppendsBeginning}
use Rattle.check_files.specs.Told.{Account, Hears}
use Rattle.check_files.proofs.Doing.{hears_nil, hears_trans}
use Rattle.shelves.specs.Shelf.{Shelved}
use Rattle.fix_program.specs.Runs.{IsRun, path_in}
use Rattle.fix_program.specs.Shown.{AreShown, more, none}
use Rattle.fix_program.specs.declared.ends.FileEnd.{FileEnd}
use Rattle.fix_program.specs.declared.file.FileReplacement.{FileReplacement}
use Rattle.fix_program.specs.declared.run.PathEnd.{PathEnd}
use Rattle.fix_program.specs.declared.run.Request.{Request}
use Rattle.fix_program.specs.declared.run.Run.{Run}
use Rattle.list_program.specs.Named.{InsideBytes}
use Rattle.spdx_commands.specs.Beside.{IsBesideTold}
use Rattle.spdx_commands.specs.Mend.{AreEndsBegun, AreEndsDone, ArePathsBegun, ArePathsDone, Did, Done, IsEndBegun, IsFixBegun, IsPathBegun, IsPut, IsTried, Setting, Stand, attempt_of, behind, behind_paths, in_beside, in_files, in_left, in_paths, left_behind, nothing, setting, stand, telling, trying, writing}
use Rattle.spdx_commands.specs.Replaced.{Attempt, noted}
use Rattle.spdx_commands.specs.Said.{HearsBeginning}
use Rattle.spdx_commands.specs.Steps.{Began, BeganPath, Comes, IsWorst}
use Rattle.spdx_commands.specs.declared.deeds.SoFar.{SoFar}
use Rattle.spdx_commands.specs.declared.nodes.Nodes.{Nodes}
use Rattle.spdx_commands.specs.declared.mending.replacing.Loss.{Loss}
use Rattle.spdx_commands.specs.declared.mending.replacing.Obstacle.{Obstacle}
use Rattle.spdx_commands.proofs.Doings.{AreSoFar, HearsTried, after}
use Rattle.spdx_troubles.specs.declared.trouble.Trouble.{Trouble}
use Rattle.spdx_troubles.specs.declared.trouble.Trouble.TheVariants as trouble

-- ---- at one thing

pub broke : {T : Type 0} (r : Result T Trouble) (P : Type 0) → P → IfErr r (λ _. P)
broke (Ok x) P h = tt
broke (Err t) P h = h

-- nothing is done
pub at_none : (x : Stand) (Is : Done → Type 0) → Is nothing → Did x x Is
at_none x Is is = record { done = nothing; writes = Appends-nil x.output.bytes; tells = hears_nil x.heard; tries = hears_nil x.tried; is = is }

-- the listener's account is another, but nothing is told
pub at_silence : (out : Told) (h l : Account Trouble) (k : Account Attempt) (Is : Done → Type 0) → l ≡ h → Is nothing → Did (stand out h k) (stand out l k) Is
at_silence out h l k Is same is = subst (λ (x : Account Trouble). Did (stand out h k) (stand out x k) Is) (sym same) (at_none (stand out h k) Is is)

-- bytes were tried
pub at_try : (out : Told) (h l : Account Trouble) (k m : Account Attempt) (links : _) (r : FileReplacement) (answer : Result Loss Obstacle) → HearsTried k m links r answer → l ≡ h
    → Did (stand out h k) (stand out l m) (IsTried links r)
at_try out h l k m links r answer tries same = record {
  done = trying (noted (attempt_of links r answer));
  writes = Appends-nil out.bytes;
  tells = subst (λ (x : Account Trouble). Hears h x []) (sym same) (hears_nil h);
  tries = tries;
  is = record { answer = answer; done_is = refl };
}

-- where it is told why a file isn't written
pub at_hindrance : {T : Type 0} (h l : Account Trouble) (k m : Account Attempt) (links : _) (r : FileReplacement) (answer : Result Loss Obstacle) (result : Result T Trouble)
    → HearsTried k m links r answer → OnErr result (l ≡ h) → IfErr result (λ _. (output : Told) → Did (stand output h k) (stand output l m) (IsTried links r))
at_hindrance h l k m links r answer (Ok x) tries same = tt
at_hindrance h l k m links r answer (Err t) tries same = λ out. at_try out h l k m links r answer tries same

-- a beginning of a text was written
pub at_text : (out out' : Told) (h : Account Trouble) (k : Account Attempt) (text : List ℕ) (Is : Done → Type 0) → AppendsBeginning out.bytes out'.bytes text → ((d : Done) → IsPut text d → Is d)
    → Did (stand out h k) (stand out' h k) Is
at_text out out' h k text Is p so = record {
  done = writing p.begun;
  writes = p.appended;
  tells = hears_nil h;
  tries = hears_nil k;
  is = so (writing p.begun) (record { begun = p.begun; others = p.others; whole = p.whole; done_is = refl });
}

-- ---- the same, of which more is known

module _ (Was Is : Done → Type 0) (so : (d : Done) → Was d → Is d) where
  pub begun_known : (a b : Stand) → Did a b Was → Did a b Is
  begun_known a b p = record { done = p.done; writes = p.writes; tells = p.tells; tries = p.tries; is = so p.done p.is }

  -- where it broke off there, it broke off here
  pub begun_of : {T : Type 0} (a b : Stand) (r : Result T Trouble) → IfErr r (λ _. Did a b Was) → IfErr r (λ _. Did a b Is)
  begun_of a b (Ok x) p = tt
  begun_of a b (Err t) p = begun_known a b p

  module _ {T : Type 0} (h l : Account Trouble) (k m : Account Attempt) where
    -- whatever the output is
    pub begun_off : (r : Result T Trouble) → IfErr r (λ _. (output : Told) → Did (stand output h k) (stand output l m) Was)
        → IfErr r (λ _. (output : Told) → Did (stand output h k) (stand output l m) Is)
    begun_off (Ok x) p = tt
    begun_off (Err t) p = λ out. begun_known (stand out h k) (stand out l m) (p out)

    -- at this output
    pub begun_at : (out : Told) (r : Result T Trouble) → IfErr r (λ _. (output : Told) → Did (stand output h k) (stand output l m) Was) → IfErr r (λ _. Did (stand out h k) (stand out l m) Is)
    begun_at out (Ok x) p = tt
    begun_at out (Err t) p = begun_known (stand out h k) (stand out l m) (p out)

-- ---- behind what was done

-- some is done, and of these troubles the first are told
pub told_behind : (a b : Stand) (l : Account Trouble) (ts : List Trouble) (Was Is : Done → Type 0) (p : Did a b Was) (q : HearsBeginning b.heard l ts) → Is (behind p.done (telling q.begun))
    → Did a (stand b.output l b.tried) Is
told_behind a b l ts Was Is p q is = record {
  done = behind p.done (telling q.begun);
  writes = Appends-trans a.output.bytes b.output.bytes b.output.bytes p.done.text [] p.writes (Appends-nil b.output.bytes);
  tells = hears_trans a.heard b.heard l p.done.told q.begun p.tells q.told_first;
  tries = hears_trans a.tried b.tried b.tried p.done.tried [] p.tries (hears_nil b.tried);
  is = is;
}

-- ---- files and paths

module _ (w : Setting) where
  pub ends_broken : (a b d : Stand) (n o : Nodes) (status : _) (ends first others : List FileEnd) (next : FileEnd) → Did a b (Comes n o status (λ before. AreEndsDone w before first))
      → Did b d (Began o (λ before. IsEndBegun w before next)) → ends ≡ first ++ next ∷ others → Did a d (Began n (λ before. AreEndsBegun w before ends))
  ends_broken a b d n o status ends first others next p q whole =
      after a b d (Comes n o status (λ before. AreEndsDone w before first)) (Began o (λ before. IsEndBegun w before next)) (Began n (λ before. AreEndsBegun w before ends)) p q
      (λ x y f g before knows.
      let u = f before knows in
      record {
        first = first;
        next = next;
        others = others;
        whole = whole;
        files = x;
        own = y;
        are_done = u.is;
        is_begun = g (before ++ x.tried) u.replaced;
        done_is = refl;
      })

  pub in_path : (a b : Stand) (x : SoFar) (p : PathEnd) → Did a b (Began x.replaced (λ before. AreEndsBegun w before p.ends.items)) → Did a b (BeganPath x (λ before. IsPathBegun w before p))
  in_path a b x p q =
      begun_known (Began x.replaced (λ before. AreEndsBegun w before p.ends.items)) (BeganPath x (λ before. IsPathBegun w before p)) (λ d is. λ empty before knows. in_files d (is before knows)) a b q

  pub in_what_was_left : (a b : Stand) (l : Account Trouble) (x : SoFar) (o : Nodes) (p : PathEnd) (status : _) (left : List (String Global))
      → Did a b (Comes x.replaced o status (λ before. AreEndsDone w before p.ends.items)) → HearsBeginning b.heard l (map trouble.LeftBehind left)
      → left ≡ x.left.items ++ flat_map left_behind p.ends.items → Did a (stand b.output l b.tried) (BeganPath x (λ before. IsPathBegun w before p))
  in_what_was_left a b l x o p status left q tells is =
      told_behind a b l (map trouble.LeftBehind left) (Comes x.replaced o status (λ before. AreEndsDone w before p.ends.items)) (BeganPath x (λ before. IsPathBegun w before p)) q tells
      (λ empty before knows.
      let all = is ∙ ap (λ (ns : List (String Global)). ns ++ flat_map left_behind p.ends.items) empty in
      in_left q.done tells.begun tells.others (q.is before knows).is (ap (map trouble.LeftBehind) (sym all) ∙ tells.whole))

  pub paths_broken : (a b d : Stand) (x : SoFar) (status : _) (paths first others : List PathEnd) (next : PathEnd) → Did a b (AreSoFar w x.replaced status first) → x.left.items ≡ []
      → Did b d (BeganPath x (λ before. IsPathBegun w before next)) → paths ≡ first ++ next ∷ others → Did a d (ArePathsBegun w paths)
  paths_broken a b d x status paths first others next p empty q whole =
      after a b d (AreSoFar w x.replaced status first) (BeganPath x (λ before. IsPathBegun w before next)) (ArePathsBegun w paths) p q
      (λ t u f g. record {
        first = first;
        next = next;
        others = others;
        whole = whole;
        before = t;
        own = u;
        are_done = f.is;
        is_begun = g empty t.tried f.replaced;
        done_is = refl;
      })

-- ---- a run

-- what is shown one after the other tells nothing, where none of it does
module _ {S : Type 0} (Shows : S → S → Type 0) (heard : S → Account Trouble) (each : (x y : S) → Shows x y → Hears (heard x) (heard y) []) where
  pub silent : {x y : S} → AreShown Shows x y → Hears (heard x) (heard y) []
  silent (none x) = hears_nil (heard x)
  silent (more x y z first last) = hears_trans (heard x) (heard y) (heard z) [] [] (silent first) (each y z last)

-- what told nothing came before
behind_silence : (x : Stand) (begun : Account Trouble) (y : Stand) (Is : Done → Type 0) → Hears x.heard begun [] → Did (stand x.output begun x.tried) y Is → Did x y Is
behind_silence x begun y Is silent p =
    record { done = p.done; writes = p.writes; tells = hears_trans x.heard begun y.heard [] p.done.told silent p.tells; tries = p.tries; is = p.is }

module _ (s : Shelved) (inside : InsideBytes) (a : Request) (x : Stand) (run : Run) (is : IsRun s inside a run) where
  abbrev of_run : Setting
  of_run = setting s run.catalogue a.breaks_links

  -- the run before told nothing
  pub run_begun : (begun : Account Trouble) (y : Stand) → Hears x.heard begun [] → Did (stand x.output begun x.tried) y (ArePathsBegun (setting s run.catalogue a.breaks_links) run.paths.items)
      → Did x y (IsFixBegun s inside a)
  run_begun begun y same p =
      begun_known (ArePathsBegun of_run run.paths.items) (IsFixBegun s inside a) (λ d begun. in_paths run d is begun) x y
      (behind_silence x begun y (ArePathsBegun of_run run.paths.items) same p)

  module _ (begun : Account Trouble) (y : Stand) (told : _) (same : Hears x.heard begun [])
      (p : Did (stand x.output begun x.tried) y (IsWorst told (ArePathsDone (setting s run.catalogue a.breaks_links) run.paths.items))) where
    all_done : Did x y (IsWorst told (ArePathsDone of_run run.paths.items))
    all_done = behind_silence x begun y (IsWorst told (ArePathsDone of_run run.paths.items)) same p

    pub run_alone : Did x y (IsFixBegun s inside a)
    run_alone = begun_known (IsWorst told (ArePathsDone of_run run.paths.items)) (IsFixBegun s inside a) (λ d done. behind_paths run d is done.is) x y all_done

    pub run_beside : (l : Account Trouble) (ts : List Trouble) → IsBesideTold a.is_written s (map path_in a.paths.now) ts → HearsBeginning y.heard l ts
        → Did x (stand y.output l y.tried) (IsFixBegun s inside a)
    run_beside l ts beside q =
        told_behind x y l ts (IsWorst told (ArePathsDone of_run run.paths.items)) (IsFixBegun s inside a) all_done q
        (in_beside run all_done.done q.begun q.others is all_done.is.is (subst (IsBesideTold a.is_written s (map path_in a.paths.now)) q.whole beside))
