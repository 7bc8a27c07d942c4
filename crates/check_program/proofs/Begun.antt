-- Where a check of paths breaks off.
use Rattle.std.proofs.Common.{◌≡◌, ◌⊎◌, ◌∙◌, refl, sym, ap, inl, inr, subst, ℕ, ◌<◌, suc, Bool, true, false, List, [], ◌∷◌, ◌++◌, Option, Result, Ok, Err, IfErr, IsErrAnd, append-nil, codes, drop, get_or, length, map, take, Bor, if◌then◌else◌}
use Rattle.std.proofs.Math.Seq.{split_at}
use Rattle.std.proofs.KnownBytes.{Appends-trans}
use Rattle.std.proofs.lemmas.Bool.{false≢true}
use Rattle.std.proofs.lemmas.List.{map-append}
use Rattle.std.specs.Io.KnownBytes.{Appends, Consumes, IsAtEnd}
use Rattle.finding_forms.specs.Forms.{beginning, ending}
use Rattle.line_engine.specs.Device.{Told, devices}
use Rattle.line_engine.specs.Progress.{AppendsBeginning}
use Rattle.manifests.specs.declared.form.Form.{Form}
use Rattle.shelves.specs.Opened.{Gives, MayHave}
use Rattle.shelves.specs.Shelf.{Shelved}
use Rattle.source_trees.specs.Readings.{IsReading}
use Rattle.source_trees.specs.declared.reading.Reading.{Reading}
use Rattle.spdx_check.specs.declared.check.Check.{Check}
use Rattle.spdx_check.specs.Checking.{ChecksLines}
use Rattle.spdx_check.specs.declared.lines.LinesFault.{LinesFault}
use Rattle.check_sources.specs.declared.sums.Sums.{Sums}
use Rattle.check_files.specs.Begun.{IsBeginning}
use Rattle.check_files.specs.declared.trouble.CheckFault.{CheckFault}
use Rattle.check_files.specs.declared.trouble.CheckFault.TheVariants as fault
use Rattle.check_files.specs.declared.trouble.CheckTrouble.{CheckTrouble}
use Rattle.check_files.specs.Tally.{Tally, is_clean, nothing_counted, tally_of}
use Rattle.check_files.specs.Told.{Account, Does, IsBrokenOff, Writes}
use Rattle.check_files.proofs.Begun.{silent}
use Rattle.check_files.proofs.Doing.{both, heard_alone, hears_nil, known, written_alone}
use Rattle.check_program.specs.Begun.{AreLinesBegun, ArePathsBegun, IsLinesStepBegun, IsPartStepBegun, IsPartText, IsPathBegun, IsReadBegun}
use Rattle.check_program.specs.declared.run.CheckEnd.{CheckEnd}
use Rattle.check_program.specs.declared.run.Request.{Request}
use Rattle.check_program.specs.Lines as lines
use Rattle.shelves.specs.AtPath.{IsContent, is_input, told_path}
use Rattle.check_program.specs.Lines.{content_by}
use Rattle.check_program.specs.Paths.{ArePathSteps, Ways, path_in}
use Rattle.check_program.specs.Runs.{Inside, IsBegun, IsCheck, IsEndOf, IsNoRun, IsRunBegun, in_beginning, in_ending, in_paths, last_lines, ways_in}
use Rattle.check_program.proofs.Streams.{all_had, content_gives, some_had}

-- nothing is written or told
pub idle : (out : Told) (h k : Account CheckTrouble) (Is : List ℕ → List CheckTrouble → Type 0) → k ≡ h → Is [] [] → Does out out h k Is
idle out h k Is same is = heard_alone out h k [] Is (silent h k same) is

-- ---- lines

-- what was read begins what there is
had_so_far : (a a' : Option (List ℕ)) (bytes : List ℕ) (is : Bool) → Consumes a a' bytes → (is ≡ true → IsAtEnd a') → (rest : List ℕ) × (is ≡ true → rest ≡ []) × MayHave a (bytes ++ rest)
had_so_far a a' bytes true c e = ([], λ h. refl, subst (MayHave a) (sym (append-nil bytes)) (all_had a a' bytes c (e refl)))
had_so_far a a' bytes false c e = let r = some_had a a' bytes c in (r.0, λ h. absurd (false≢true h), r.1)

-- whatever it is at which it breaks off, and nothing is told of that
pub lines_begun : (check : Check) (is_first : Bool) (name : List ℕ) (t t' out out' : Told) (h k : Account CheckTrouble) (old : Tally) (fault : LinesFault)
    → is_first ≡ is_clean old → ChecksLines check is_first name (devices t t' out out') (Err fault) → k ≡ h
    → Does out out' h k (λ text told. IsLinesStepBegun (MayHave t.bytes) check name old text told)
lines_begun check is_first name t t' out out' h k old fault e c same =
    let g = subst (λ (b : Bool). ChecksLines check b name (devices t t' out out') (Err fault)) e c in
    let begun = g.runs.begun in
    let rest = had_so_far t.bytes t'.bytes begun.bytes begun.is_ended begun.read begun.ended in
    record {
      text = begun.written.begun;
      told = [];
      writes = begun.written.appended;
      tells = silent h k same;
      is = (
        refl,
        inr (record {
          read = begun.bytes;
          rest = rest.0;
          holds = rest.2;
          is_ended = begun.is_ended;
          ended = rest.1;
          finding = g.finding;
          findings = g.findings;
          others = begun.written.others;
          begins = begun.written.whole;
        }),
      );
    }

-- what it has is what the shelf gives
module _ (Holds : List ℕ → Type 0) (check : Check) (name : List ℕ) (t : Told) (old : Tally) (gives : Gives t Holds) where
  lines_held : (text : List ℕ) → (text ≡ []) ⊎ AreLinesBegun (MayHave t.bytes) check name old text → (text ≡ []) ⊎ AreLinesBegun Holds check name old text
  lines_held text (inl nothing) = inl nothing
  lines_held text (inr p) =
      inr (record {
        read = p.read;
        rest = p.rest;
        holds = gives (p.read ++ p.rest) p.holds;
        is_ended = p.is_ended;
        ended = p.ended;
        finding = p.finding;
        findings = p.findings;
        others = p.others;
        begins = p.begins;
      })

  held : (text : List ℕ) (told : List CheckTrouble) → IsLinesStepBegun (MayHave t.bytes) check name old text told → IsLinesStepBegun Holds check name old text told
  held text told p = (p.0, lines_held text p.1)

pub given_begun : (Holds : List ℕ → Type 0) (check : Check) (name : List ℕ) (t out out' : Told) (h k : Account CheckTrouble) (old : Tally)
    → Gives t Holds → Does out out' h k (λ text told. IsLinesStepBegun (MayHave t.bytes) check name old text told)
    → Does out out' h k (λ text told. IsLinesStepBegun Holds check name old text told)
given_begun Holds check name t out out' h k old gives d =
    known out out' h k (λ text told. IsLinesStepBegun (MayHave t.bytes) check name old text told) (λ text told. IsLinesStepBegun Holds check name old text told) d
    (λ text told p. held Holds check name t old gives text told p)

-- it isn't opened
pub unopened_begun : (Holds : List ℕ → Type 0) (check : Check) (name : List ℕ) (out : Told) (h k : Account CheckTrouble) (old : Tally) → k ≡ h
    → Does out out h k (λ text told. IsLinesStepBegun Holds check name old text told)
unopened_begun Holds check name out h k old same = idle out h k (λ text told. IsLinesStepBegun Holds check name old text told) same (refl, inl refl)

-- the path is standard input, or it isn't
pub at_path_begun : (b : Bool) (s : Shelved) (check : Check) (path : List ℕ) (out out' : Told) (h k : Account CheckTrouble) (old : Tally) → b ≡ is_input path
    → Does out out' h k (λ text told. IsLinesStepBegun (content_by b s path).Holds check (if b then codes "<stdin>" else path) old text told)
    → Does out out' h k (λ text told. IsLinesStepBegun (lines.Gives s path) check (told_path path) old text told)
at_path_begun b s check path out out' h k old e d =
    subst (λ (c : Bool). Does out out' h k (λ text told. IsLinesStepBegun (content_by c s path).Holds check (if c then codes "<stdin>" else path) old text told)) e d

-- ---- a file that is read whole

module _ (s : Shelved) (check : Check) (form : Option Form) (path : List ℕ) (old : Tally) where
  pub part_begun : (bytes : List ℕ) (out out' : Told) (h : Account CheckTrouble) → IsContent s path bytes → Writes out out' (IsBeginning (IsPartText check form (told_path path) bytes old))
      → Does out out' h h (λ text told. IsPartStepBegun s check form path old text told)
  part_begun bytes out out' h content w =
      written_alone out out' h (IsBeginning (IsPartText check form (told_path path) bytes old)) (λ text told. IsPartStepBegun s check form path old text told) w
      (λ text is. (refl, inr (bytes, content_gives s path bytes content, is)))

  pub part_unread : (out : Told) (h k : Account CheckTrouble) → k ≡ h → Does out out h k (λ text told. IsPartStepBegun s check form path old text told)
  part_unread out h k same = idle out h k (λ text told. IsPartStepBegun s check form path old text told) same (refl, inl refl)

-- ---- a path, and all of them

module _ (s : Shelved) (check : Check) (w : Ways) where
  -- it is read so
  pub read_begun : (r r' : Reading) (path : List ℕ) (out out' : Told) (h k : Account CheckTrouble) (old : Tally) → r' ≡ r
      → Does out out' h k (λ text told. IsReadBegun s check w r path old text told) → Does out out' h k (λ text told. IsReadBegun s check w r' path old text told)
  read_begun r r' path out out' h k old is d = subst (λ (x : Reading). Does out out' h k (λ text told. IsReadBegun s check w x path old text told)) (sym is) d

  pub path_begun : (path : List ℕ) (r : Reading) (out out' : Told) (h k : Account CheckTrouble) (old : Tally) → IsReading s w.wanted path r
      → Does out out' h k (λ text told. IsReadBegun s check w r path old text told) → Does out out' h k (λ text told. IsPathBegun s check w path old text told)
  path_begun path r out out' h k old is d =
      known out out' h k (λ text told. IsReadBegun s check w r path old text told) (λ text told. IsPathBegun s check w path old text told) d (λ text told p. inr (r, is, p))

  -- it isn't read
  pub path_unread : (path : List ℕ) (out : Told) (h k : Account CheckTrouble) (old : Tally) → k ≡ h → Does out out h k (λ text told. IsPathBegun s check w path old text told)
  path_unread path out h k old same = idle out h k (λ text told. IsPathBegun s check w path old text told) same (inl (refl, refl))

  -- at the next of these it breaks off
  pub paths_begun : (all : List (Bor (List ℕ))) (i : ℕ) (d : Bor (List ℕ)) (a b c : Told) (h k l : Account CheckTrouble) (old between : Tally) → i < length all
      → Does a b h k (λ text told. ArePathSteps s check w (map path_in (take i all)) old text told between)
      → Does b c k l (λ text told. IsPathBegun s check w (get_or all i d).now between text told)
      → Does a c h l (λ text told. ArePathsBegun s check w (map path_in all) old text told)
  paths_begun all i d a b c h k l old between low x y =
      both a b c h k l (λ text told. ArePathSteps s check w (map path_in (take i all)) old text told between) (λ text told. IsPathBegun s check w (get_or all i d).now between text told)
      (λ text told. ArePathsBegun s check w (map path_in all) old text told) x y
      (λ text told own own_told p q. record {
        first = map path_in (take i all);
        next = (get_or all i d).now;
        others = map path_in (drop (suc i) all);
        whole = ap (map path_in) (split_at all i d low) ∙ map-append path_in (take i all) (get_or all i d ∷ drop (suc i) all);
        found = text;
        found_told = told;
        between = between;
        steps = p;
        own = own;
        own_told = own_told;
        begun = q;
        text_is = refl;
        told_is = refl;
      })

-- ---- a run

-- of a text that was put behind nothing a beginning is written
pub put_begun : (a b : Told) (bs old text : List ℕ) → bs ≡ old ++ text → old ≡ [] → AppendsBeginning a.bytes b.bytes bs → AppendsBeginning a.bytes b.bytes text
put_begun a b bs old text put none p = subst (AppendsBeginning a.bytes b.bytes) (put ∙ ap (λ (xs : List ℕ). xs ++ text) none) p

-- so it is of two, one behind the other
pub both_begun : (a b : Told) (bs mid old first last : List ℕ) → bs ≡ mid ++ last → mid ≡ old ++ first → old ≡ [] → AppendsBeginning a.bytes b.bytes bs
    → AppendsBeginning a.bytes b.bytes (first ++ last)
both_begun a b bs mid old first last behind put none p =
    subst (AppendsBeginning a.bytes b.bytes) (behind ∙ ap (λ (xs : List ℕ). xs ++ last) (put ∙ ap (λ (xs : List ℕ). xs ++ first) none)) p

module _ (s : Shelved) (check : Check) (version : List ℕ) (a : Request) where
  -- in what stands before all findings
  pub run_in_beginning : (x y : Told) (h : Account CheckTrouble) → AppendsBeginning x.bytes y.bytes (beginning check.format version)
      → Does x y h h (λ text told. IsRunBegun s check version a text told)
  run_in_beginning x y h p = record { text = p.begun; told = []; writes = p.appended; tells = hears_nil h; is = in_beginning p.begun p.others p.whole }

  module _ (x y z : Told) (h k : Account CheckTrouble) (first : Appends x.bytes y.bytes (beginning check.format version)) (old : Tally) (none : old ≡ nothing_counted) where
    -- in the paths
    pub run_in_paths : Does y z h k (λ text told. ArePathsBegun s check (ways_in a) (map path_in a.paths.now) old text told)
        → Does x z h k (λ text told. IsRunBegun s check version a text told)
    run_in_paths d = record {
      text = beginning check.format version ++ d.text;
      told = d.told;
      writes = Appends-trans x.bytes y.bytes z.bytes (beginning check.format version) d.text first d.writes;
      tells = d.tells;
      is = in_paths d.text d.told (subst (λ (t : Tally). ArePathsBegun s check (ways_in a) (map path_in a.paths.now) t d.text d.told) none d.is);
    }

    -- in what stands behind all findings
    pub run_in_ending : (end : Told) (sums : Sums) → Does y z h k (λ text told. ArePathSteps s check (ways_in a) (map path_in a.paths.now) old text told (tally_of sums))
        → AppendsBeginning z.bytes end.bytes (ending check.format ++ last_lines a.summary check.format sums)
        → Does x end h k (λ text told. IsRunBegun s check version a text told)
    run_in_ending end sums d p = record {
      text = beginning check.format version ++ (d.text ++ p.begun);
      told = d.told;
      writes = Appends-trans x.bytes y.bytes end.bytes (beginning check.format version) (d.text ++ p.begun) first
          (Appends-trans y.bytes z.bytes end.bytes d.text p.begun d.writes p.appended);
      tells = d.tells;
      is =
          in_ending d.text p.begun p.others d.told sums
          (subst (λ (t : Tally). ArePathSteps s check (ways_in a) (map path_in a.paths.now) t d.text d.told (tally_of sums)) none d.is) p.whole;
    }

run_begun : (s : Shelved) (inside : Inside) (a : Request) (check : Check) (x y : Told) (h k : Account CheckTrouble) → IsCheck s inside a check
    → Does x y h k (λ text told. IsRunBegun s check inside.version a text told) → Does x y h k (IsBegun s inside a)
run_begun s inside a check x y h k is d =
    known x y h k (λ text told. IsRunBegun s check inside.version a text told) (IsBegun s inside a) d (λ text told p. (check, is, p))

-- a run by that list ends as a part of it broke off
pub run_broken : {T : Type 0} (s : Shelved) (inside : Inside) (a : Request) (check : Check) (x y : Told) (h k : Account CheckTrouble) (f : CheckFault) (r : Result T CheckEnd)
    → IsErrAnd r (IsEndOf f) → IsBrokenOff y f → IsCheck s inside a check → Does x y h k (λ text told. IsRunBegun s check inside.version a text told)
    → IfErr r (IsNoRun s inside a x y h k)
run_broken s inside a check x y h k f (Ok v) e broken is d = tt
run_broken s inside a check x y h k fault.Output (Err end) e broken is d = subst (IsNoRun s inside a x y h k) (sym e) (broken, run_begun s inside a check x y h k is d)
run_broken s inside a check x y h k fault.Memory (Err end) e broken is d = subst (IsNoRun s inside a x y h k) (sym e) (run_begun s inside a check x y h k is d)
