-- What was tried was needed, and only where files are written.
use Rattle.std.proofs.Common.{◌≡◌, ◌∙◌, refl, sym, ap, subst, ℕ, Bool, true, false, List, [], ◌∷◌, ◌++◌, Option, None, Some, append-nil, arith, string_bytes}
use Rattle.std.specs.Prelude.{All, Result, Ok, Err, IfErr, IsErrAnd, if◌then◌else◌}
use Rattle.std.specs.Option.{option_copied}
use Rattle.std.specs.Global.{Vec}
use Rattle.std.proofs.lemmas.List.Elements.{All-append, All-cons, All-head, All-nil, All-same, All-tail}
use Rattle.check_files.specs.Told.{Account, Hears, Tells}
use Rattle.check_files.proofs.Doing.{hears_nil}
use Rattle.shelves.specs.Shelf.{Shelved}
use Rattle.spdx_requirement.specs.Rows.{Rows}
use Rattle.file_fixes.specs.Mended.{bytes_in}
use Rattle.file_fixes.proofs.Accepted.{stays}
use Rattle.file_fixes.specs.declared.mended.Parts.{Parts}
use Rattle.shelves.specs.AtPath.{is_input}
use Rattle.fix_program.specs.Files.{IsDeedBy, IsFixedAt, IsRead, read_as}
use Rattle.fix_program.specs.Files as files
use Rattle.fix_program.specs.declared.ends.FileEnd.{FileEnd}
use Rattle.fix_program.specs.declared.ends.FileEnd.TheVariants as end
use Rattle.fix_program.specs.declared.file.Deed.{Deed}
use Rattle.fix_program.specs.declared.file.Deed.TheVariants as deed
use Rattle.fix_program.specs.declared.file.Fixed.{Fixed}
use Rattle.fix_program.specs.declared.file.FileReplacement.{FileReplacement}
use Rattle.fix_program.specs.declared.run.PathEnd.{PathEnd}
use Rattle.fix_program.specs.declared.run.Request.{Request}
use Rattle.fix_program.proofs.Each.{AreFixed, IsFixedSomewhere, each_fixed}
use Rattle.fix_program.specs.declared.run.Run.{Run}
use Rattle.fix_program.specs.Runs.{IsRun}
use Rattle.list_program.specs.Named.{InsideBytes, IsNamedList}
use Rattle.spdx_commands.specs.Mend.{AreEndsBegun, AreEndsDone, ArePathsBegun, ArePathsDone, Did, Done, IsDeedBegun, IsDeedDone, IsEndBegun, IsEndDone, IsFix, IsFixBegun, IsFixStopped, IsMere, IsNeeded, IsPathBegun, IsPathDone, IsPlaced, IsPlacedAgain, IsPlacedBy, IsPlacedIf, IsTried, IsTriedAgain, IsTriedBy, IsTriedIf, Setting, Stand, again, attempt_of, behind_paths, broken_off, caused, in_beside, in_files, in_left, in_paths, left_out, mended, no_end, no_path, nothing, setting, then_end, then_path, untried, worst}
use Rattle.spdx_commands.specs.Replaced.{Attempt, attempt, is_of_memory, is_replaced, noted}
use Rattle.spdx_commands.specs.declared.mending.replacing.Loss.{Loss}
use Rattle.spdx_commands.specs.declared.mending.replacing.Obstacle.{Obstacle}
use Rattle.spdx_troubles.specs.declared.trouble.Trouble.{Trouble}

all_left : {X : Type 0} (P : X → Type 0) (xs ys : List X) → All P (xs ++ ys) → All P xs
all_left P [] ys h = All-nil P
all_left P (x ∷ xs) ys h = All-cons P x xs (All-head P x (xs ++ ys) h) (all_left P xs ys (All-tail P x (xs ++ ys) h))

all_right : {X : Type 0} (P : X → Type 0) (xs ys : List X) → All P (xs ++ ys) → All P ys
all_right P [] ys h = h
all_right P (x ∷ xs) ys h = all_right P xs ys (All-tail P x (xs ++ ys) h)

-- ---- a replacement

-- of which bytes of the file it is
record IsOf (w : Bool) (path : List ℕ) (new : Option (Vec ℕ)) (r : FileReplacement) : Type 0 where
  is_written : w ≡ true
  path_is : path ≡ string_bytes r.path
  bytes_are : bytes_in new ≡ Some r.bytes.items
  is_some : new ≡ None → ⊥

all_same_first : {X : Type 0} (P : X → Type 0) (xs ys : List X) → xs ≡ ys ++ [] → All P ys → All P xs
all_same_first P xs ys is h = All-same P xs ys (is ∙ append-nil ys) h

none_replaced : (r : FileReplacement) → deed.Replace r ≡ deed.Nothing → ⊥
none_replaced r e = let bad : true ≡ false = ap files.is_replaced e in absurd cc

some_is : (v : Vec ℕ) → Some v ≡ None → ⊥
some_is v e = absurd cc

of_deed : (w input : Bool) (p : Parts) (path old : List ℕ) (new : Option (Vec ℕ)) (r : FileReplacement) → IsDeedBy w input p path old new (deed.Replace r) → IsOf w path new r
of_deed false input p path old None r h = absurd (none_replaced r h)
of_deed false input p path old (Some v) r h = absurd h.2
of_deed true true p path old new r h = absurd h
of_deed true false p path old None r h = absurd (none_replaced r h)
of_deed true false p path old (Some v) r h = record {
  is_written = refl;
  path_is = sym h.0;
  bytes_are = ap (λ (u : Vec ℕ). Some u.items) (sym h.2);
  is_some = some_is v;
}

module _ (s : Shelved) (inside : InsideBytes) (a : Request) where
  -- it was needed, and files are written
  abbrev IsFor : Bool → Attempt → Type 0
  IsFor on t = (on ≡ true) × IsNeeded s inside a t

  module _ (c : Rows) (named : IsNamedList s inside (option_copied a.list) c) where
    abbrev of_run : Setting
    of_run = setting s c a.breaks_links

    needed_at : (p : Parts) (path : List ℕ) (f : Fixed) (r : FileReplacement) (answer : Result Loss Obstacle) (h : IsFixedAt s c true p path f) → IsOf true path h.outcome.bytes r → s.HoldsAs path h.bytes r.stamp
        → IsNeeded s inside a (attempt path r.stamp a.breaks_links r.bytes.items answer)
    needed_at p path f r answer h of stamped = record {
      catalogue = c;
      list_is = named;
      parts = p;
      old = h.bytes;
      outcome = h.outcome;
      reads = h.reads;
      stamped = stamped;
      mends = h.mends;
      bytes_are = of.bytes_are;
      refuses = λ reads. of.is_some (stays c p (read_as true path) h.bytes h.outcome h.mends reads).0;
      links_are = refl;
    }

    of_fixed : (on : Bool) (p : Parts) (path : List ℕ) (f : Fixed) (r : FileReplacement) (h : IsFixedAt s c on p path f) → f.deed ≡ deed.Replace r → IsOf on path h.outcome.bytes r
    of_fixed on p path f r h is = of_deed on (is_input path) p path h.bytes h.outcome.bytes r (subst (IsDeedBy on (is_input path) p path h.bytes h.outcome.bytes) is h.does)

    fixed_for : (on : Bool) (p : Parts) (path : List ℕ) (f : Fixed) (r : FileReplacement) (answer : Result Loss Obstacle) → IsFixedAt s c on p path f → f.deed ≡ deed.Replace r
        → IsFor on (attempt_of a.breaks_links r answer)
    fixed_for false p path f r answer h is = absurd (let bad : false ≡ true = (of_fixed false p path f r h is).is_written in cc)
    fixed_for true p path f r answer h is =
        let of = of_fixed true p path f r h is in
        let needed = needed_at p path f r answer h of (subst (files.IsStamped s path h.bytes) is h.stamped) in
        (refl, subst (λ (q : List ℕ). IsNeeded s inside a (attempt q r.stamp a.breaks_links r.bytes.items answer)) of.path_is needed)

    -- ---- what is done

    tries_none : (on : Bool) (d e : Done) → d ≡ e → e.tried ≡ [] → All (IsFor on) d.tried
    tries_none on d e same none = All-same (IsFor on) d.tried [] (ap (λ (x : Done). x.tried) same ∙ none) (All-nil (IsFor on))

    placed_for : (on : Bool) (r : FileReplacement) (d : Done) → ((answer : Result Loss Obstacle) → IsFor on (attempt_of a.breaks_links r answer)) → IsPlaced a.breaks_links r d → All (IsFor on) d.tried
    placed_for on r d are h =
        let t = attempt_of a.breaks_links r h.answer in
        All-same (IsFor on) d.tried (t ∷ []) h.tried_is (All-cons (IsFor on) t [] (are h.answer) (All-nil (IsFor on)))

    if_for : (on : Bool) (p : Parts) (path : List ℕ) (f : Fixed) → on ≡ true → IsFixedAt s c true p path f → (x : Deed) → f.deed ≡ x → (d : Done) → IsPlacedIf a.breaks_links x d → All (IsFor on) d.tried
    if_for on p path f e h deed.Nothing is d done = tries_none on d nothing done refl
    if_for on p path f e h (deed.Put text) is d done = tries_none on d nothing done refl
    if_for on p path f e h (deed.Replace r) is d done = placed_for on r d (λ answer. (e, (fixed_for true p path f r answer h is).1)) done

    again_for : (on : Bool) (r : FileReplacement) (d : Done) → on ≡ true → IsPlacedAgain of_run r d → All (IsFor on) d.tried
    again_for on r d e (mended f at done) = if_for on r.parts (string_bytes r.path) f e at f.deed refl d done
    again_for on r d e (left_out t at done) = tries_none on d _ done.done_is refl

    by_for : (twice on : Bool) (r : FileReplacement) (d : Done) → on ≡ true → ((answer : Result Loss Obstacle) → IsFor on (attempt_of a.breaks_links r answer)) → IsPlacedBy twice of_run r d
        → All (IsFor on) d.tried
    by_for false on r d e are h = placed_for on r d are h
    by_for true on r d e are h = again_for on r d e h

    deed_for : (on : Bool) (p : Parts) (path : List ℕ) (f : Fixed) (before : List Attempt) → IsFixedAt s c on p path f → (x : Deed) → f.deed ≡ x → (d : Done) → IsDeedDone of_run before x d
        → All (IsFor on) d.tried
    deed_for on p path f before h deed.Nothing is d done = tries_none on d nothing done refl
    deed_for on p path f before h (deed.Put text) is d done = tries_none on d _ done refl
    deed_for on p path f before h (deed.Replace r) is d done =
        by_for (is_replaced before r.stamp) on r d (of_fixed on p path f r h is).is_written (λ answer. fixed_for on p path f r answer h is) done

    end_for : (on : Bool) (before : List Attempt) (e : FileEnd) (d : Done) → IsEndDone of_run before e d → IsFixedSomewhere s c on e → All (IsFor on) d.tried
    end_for on before (end.Fixed f) d done at = deed_for on at.0 at.1 f before at.2 f.deed refl d done
    end_for on before (end.LeftOut t) d done at = tries_none on d _ done.done_is refl
    end_for on before (end.LeftBehind n) d done at = tries_none on d nothing done refl

    ends_for : (on : Bool) (before : List Attempt) {ends : List FileEnd} {d : Done} → AreEndsDone of_run before ends d → All (IsFixedSomewhere s c on) ends → All (IsFor on) d.tried
    ends_for on before no_end h = All-nil (IsFor on)
    ends_for on before (then_end es e done own are is) h =
        All-append (IsFor on) done.tried own.tried (ends_for on before are (all_left (IsFixedSomewhere s c on) es (e ∷ []) h))
        (end_for on (before ++ done.tried) e own is (All-head (IsFixedSomewhere s c on) e [] (all_right (IsFixedSomewhere s c on) es (e ∷ []) h)))

    path_for : (on : Bool) (before : List Attempt) (p : PathEnd) (d : Done) → IsPathDone of_run before p d → AreFixed s c on p → All (IsFor on) d.tried
    path_for on before p d done h = all_same_first (IsFor on) d.tried done.files.tried (ap (λ (x : Done). x.tried) done.done_is) (ends_for on before done.are_done h)

    paths_for : (on : Bool) {paths : List PathEnd} {d : Done} → ArePathsDone of_run paths d → All (AreFixed s c on) paths → All (IsFor on) d.tried
    paths_for on no_path h = All-nil (IsFor on)
    paths_for on (then_path ps p done own are is) h =
        All-append (IsFor on) done.tried own.tried (paths_for on are (all_left (AreFixed s c on) ps (p ∷ []) h))
        (path_for on done.tried p own is (All-head (AreFixed s c on) p [] (all_right (AreFixed s c on) ps (p ∷ []) h)))

    -- ---- what is done of a file at which it breaks off

    noted_for : (on : Bool) (t : Attempt) (m : Bool) → IsFor on t → All (IsFor on) (if m then [] else t ∷ [])
    noted_for on t true h = All-nil (IsFor on)
    noted_for on t false h = All-cons (IsFor on) t [] h (All-nil (IsFor on))

    tried_for : (on : Bool) (r : FileReplacement) (d : Done) → ((answer : Result Loss Obstacle) → IsFor on (attempt_of a.breaks_links r answer)) → IsTried a.breaks_links r d → All (IsFor on) d.tried
    tried_for on r d are h =
        let t = attempt_of a.breaks_links r h.answer in
        All-same (IsFor on) d.tried (noted t) (ap (λ (x : Done). x.tried) h.done_is) (noted_for on t (is_of_memory h.answer) (are h.answer))

    tried_if : (on : Bool) (p : Parts) (path : List ℕ) (f : Fixed) → on ≡ true → IsFixedAt s c true p path f → (x : Deed) → f.deed ≡ x → (d : Done) → IsTriedIf a.breaks_links x d → All (IsFor on) d.tried
    tried_if on p path f e h deed.Nothing is d done = absurd done
    tried_if on p path f e h (deed.Put text) is d done = absurd done
    tried_if on p path f e h (deed.Replace r) is d done = tried_for on r d (λ answer. (e, (fixed_for true p path f r answer h is).1)) done

    tried_again : (on : Bool) (r : FileReplacement) (d : Done) → on ≡ true → IsTriedAgain of_run r d → All (IsFor on) d.tried
    tried_again on r d e (again f at done) = tried_if on r.parts (string_bytes r.path) f e at f.deed refl d done
    tried_again on r d e (untried is) = tries_none on d nothing is refl

    tried_by : (twice on : Bool) (r : FileReplacement) (d : Done) → on ≡ true → ((answer : Result Loss Obstacle) → IsFor on (attempt_of a.breaks_links r answer)) → IsTriedBy twice of_run r d
        → All (IsFor on) d.tried
    tried_by false on r d e are h = tried_for on r d are h
    tried_by true on r d e are h = tried_again on r d e h

    begun_deed : (on : Bool) (p : Parts) (path : List ℕ) (f : Fixed) (before : List Attempt) → IsFixedAt s c on p path f → (x : Deed) → f.deed ≡ x → (d : Done) → IsDeedBegun of_run before x d
        → All (IsFor on) d.tried
    begun_deed on p path f before h deed.Nothing is d done = absurd done
    begun_deed on p path f before h (deed.Put text) is d done = tries_none on d _ done.done_is refl
    begun_deed on p path f before h (deed.Replace r) is d done =
        tried_by (is_replaced before r.stamp) on r d (of_fixed on p path f r h is).is_written (λ answer. fixed_for on p path f r answer h is) done

    begun_end : (on : Bool) (before : List Attempt) (e : FileEnd) (d : Done) → IsEndBegun of_run before e d → IsFixedSomewhere s c on e → All (IsFor on) d.tried
    begun_end on before (end.Fixed f) d done at = begun_deed on at.0 at.1 f before at.2 f.deed refl d done
    begun_end on before (end.LeftOut t) d done at = tries_none on d nothing done refl
    begun_end on before (end.LeftBehind n) d done at = tries_none on d nothing done refl

    begun_ends : (on : Bool) (before : List Attempt) (ends : List FileEnd) (d : Done) → AreEndsBegun of_run before ends d → All (IsFixedSomewhere s c on) ends → All (IsFor on) d.tried
    begun_ends on before ends d h fixed =
        let each = subst (All (IsFixedSomewhere s c on)) h.whole fixed in
        All-same (IsFor on) d.tried (h.files.tried ++ h.own.tried) (ap (λ (x : Done). x.tried) h.done_is)
        (All-append (IsFor on) h.files.tried h.own.tried (ends_for on before h.are_done (all_left (IsFixedSomewhere s c on) h.first (h.next ∷ h.others) each))
        (begun_end on (before ++ h.files.tried) h.next h.own h.is_begun (All-head (IsFixedSomewhere s c on) h.next h.others (all_right (IsFixedSomewhere s c on) h.first (h.next ∷ h.others) each))))

    begun_path : (on : Bool) (before : List Attempt) (p : PathEnd) {d : Done} → IsPathBegun of_run before p d → AreFixed s c on p → All (IsFor on) d.tried
    begun_path on before p (in_files d begun) h = begun_ends on before p.ends.items d begun h
    begun_path on before p (in_left files first others are left) h = all_same_first (IsFor on) (files.tried ++ []) files.tried refl (ends_for on before are h)

    begun_paths : (on : Bool) (paths : List PathEnd) (d : Done) → ArePathsBegun of_run paths d → All (AreFixed s c on) paths → All (IsFor on) d.tried
    begun_paths on paths d h fixed =
        let each = subst (All (AreFixed s c on)) h.whole fixed in
        All-same (IsFor on) d.tried (h.before.tried ++ h.own.tried) (ap (λ (x : Done). x.tried) h.done_is)
        (All-append (IsFor on) h.before.tried h.own.tried (paths_for on h.are_done (all_left (AreFixed s c on) h.first (h.next ∷ h.others) each))
        (begun_path on h.before.tried h.next h.is_begun (All-head (AreFixed s c on) h.next h.others (all_right (AreFixed s c on) h.first (h.next ∷ h.others) each))))

  -- ---- the command

  -- all that was tried was needed, and only where files are written
  abbrev pub TriesNeeded : Account Attempt → Account Attempt → Type 0
  TriesNeeded k m = Tells k m (All (IsFor a.is_written))

  begun_for : {d : Done} → IsFixBegun s inside a d → All (IsFor a.is_written) d.tried
  begun_for (in_paths run d is begun) = begun_paths run.catalogue is.list_is a.is_written run.paths.items d begun (each_fixed s inside a run is)
  begun_for (behind_paths run d is done) = paths_for run.catalogue is.list_is a.is_written done (each_fixed s inside a run is)
  begun_for (in_beside run paths first others is done beside) =
      all_same_first (IsFor a.is_written) (paths.tried ++ []) paths.tried refl (paths_for run.catalogue is.list_is a.is_written done (each_fixed s inside a run is))

  pub done_tries : (x y : Stand) (status : ℕ) → Did x y (IsFix s inside a status) → TriesNeeded x.tried y.tried
  done_tries x y status d = record {
    told = d.done.tried;
    tells = d.tries;
    is = all_same_first (IsFor a.is_written) d.done.tried d.is.paths.tried (ap (λ (u : Done). u.tried) d.is.done_is)
        (paths_for d.is.run.catalogue d.is.is_run.list_is a.is_written d.is.are_done (each_fixed s inside a d.is.run d.is.is_run));
  }

  stopped_by : (x y : Stand) {t : Trouble} → IsFixStopped s inside a x y t → TriesNeeded x.tried y.tried
  stopped_by x y (caused cause is writes tells tries) =
      record { told = []; tells = subst (λ (k : Account Attempt). Hears x.tried k []) (sym tries) (hears_nil x.tried); is = All-nil (IsFor a.is_written) }
  stopped_by x y (broken_off t is did) = record { told = did.done.tried; tells = did.tries; is = begun_for did.is }

  pub stopped_tries : (x y : Stand) (r : Result ℕ Trouble) (t : Trouble) → IsErrAnd r (λ u. u ≡ t) → IfErr r (IsFixStopped s inside a x y) → TriesNeeded x.tried y.tried
  stopped_tries x y (Ok n) t is h = absurd is
  stopped_tries x y (Err u) t is h = stopped_by x y h

  none_tried : (tried : List Attempt) → All (IsFor false) tried → tried ≡ []
  none_tried [] h = refl
  none_tried (t ∷ tried) h = absurd (let bad : false ≡ true = (All-head (IsFor false) t tried h).0 in cc)

  -- no file is touched where none is to be written
  pub kept : (k m : Account Attempt) → TriesNeeded k m → a.is_written ≡ false → Hears k m []
  kept k m p off = subst (Hears k m) (none_tried p.told (subst (λ (on : Bool). All (IsFor on) p.told) off p.is)) p.tells

  pub needed : (k m : Account Attempt) → TriesNeeded k m → Tells k m (All (IsNeeded s inside a))
  needed k m p = record { told = p.told; tells = p.tells; is = λ i x lt. (p.is i x lt).1 }

pub mere : (ts : List Trouble) → worst ts ≡ 0 → All IsMere ts
mere [] e = All-nil IsMere
mere (t ∷ ts) e = All-cons IsMere t ts (omega (arith, e)) (mere ts (omega (arith, e)))
