-- Where a check of a folder breaks off.
use Rattle.std.proofs.Common.{◌≡◌, ◌∙◌, refl, sym, ap, inl, inr, subst, ℕ, Bool, true, false, List, [], ◌∷◌, ◌++◌, Option, Some, String, append-nil, drop, length, map, take}
use Rattle.std.specs.declared.alloc.Global.{Global}
use Rattle.std.specs.declared.io.Error.{Error}
use Rattle.std.specs.IoError.{error_kind}
use Rattle.std.specs.List.{list_any}
use Rattle.std.specs.declared.io.ErrorKind.TheVariants.{OutOfMemory}
use Rattle.std.proofs.KnownBytes.{Appends-trans}
use Rattle.std.proofs.lemmas.Bool.{true≢false}
use Rattle.std.proofs.lemmas.List.{map-append, map-id, take-append-drop}
use Rattle.line_engine.specs.Device.{Told}
use Rattle.line_engine.specs.Progress.{AppendsBeginning}
use Rattle.shelves.specs.Shelf.{Shelved}
use Rattle.source_trees.specs.Readings.{is_all}
use Rattle.source_trees.specs.declared.reading.Taken.{Taken}
use Rattle.source_trees.specs.declared.stops.Stop.{Stop}
use Rattle.source_trees.specs.declared.walk.Seen.{Seen}
use Rattle.source_trees.specs.Walks.{IsBegun, IsNext}
use Rattle.spdx_check.specs.declared.check.Check.{Check}
use Rattle.check_sources.specs.Owed.{Whole, owed_by, wholes_text}
use Rattle.check_files.specs.Begun.{IsBeginning}
use Rattle.check_files.specs.declared.trouble.CheckTrouble.{CheckTrouble}
use Rattle.check_files.specs.declared.trouble.CheckTrouble.TheVariants as trouble
use Rattle.check_files.specs.Noted.{Notes, nothing_noted}
use Rattle.check_files.specs.Passing.{is_of_memory, refuses_memory}
use Rattle.check_files.specs.Tally.{Tally, is_clean}
use Rattle.check_files.specs.Told.{Account, Does, Hears, Tells, Writes}
use Rattle.check_files.proofs.Begun.{part_of_text, silent}
use Rattle.check_files.proofs.Doing.{both, heard_alone, hears_trans, known, nothing, written_alone}
use Rattle.check_program.specs.TreeBegun.{AreFirst, AreFirstPassed, IsBareBegun, IsEndBegun, IsOwedBegun, IsSeenBegun, IsTextsStepBegun, IsTreeBegun, IsWalkBegun, IsWholesText, before_walk, in_bare, in_end, in_left, in_texts, in_walk}
use Rattle.check_program.specs.Ends.{AreTextsOr, IsTextsFolder, IsTextsStep, are_none, left_trouble}
use Rattle.check_program.specs.Steps.{AreSteps, IsSoFar, IsWalked, PassesAll}
use Rattle.check_program.specs.Trees.{Manner}
use Rattle.check_program.proofs.Ending.{first_had, no_memory}
use Rattle.check_program.proofs.Walked.{before_silence, behind_silence}

-- ---- a walk

-- nothing is done
pub idle : (out : Told) (h k : Account CheckTrouble) (Is : List ℕ → List CheckTrouble → Type 0) → k ≡ h → Is [] [] → Does out out h k Is
idle out h k Is same is = heard_alone out h k [] Is (silent h k same) is

module _ (s : Shelved) (check : Check) (t : Taken) (folder : Option (List ℕ)) (stops now : List Stop) (old between : Tally) (noted notes : Notes) (a b : Told) (h k : Account CheckTrouble)
    (far : IsSoFar s check t folder stops now old noted a b h k between notes) where
  -- before what comes next
  pub before_next : (l : Account CheckTrouble) → Hears k l [] → Does a b h l (λ text told. IsWalkBegun s check t folder stops old noted text told)
  before_next l none =
      before_silence a b h k l (λ text told. IsWalkBegun s check t folder stops old noted text told)
      (known a b h k (λ text told. AreSteps s check t folder far.all old noted text told between notes) (λ text told. IsWalkBegun s check t folder stops old noted text told) far.does
      (λ text told p. record {
        first = far.all;
        now = now;
        came = far.came;
        found = text;
        found_told = told;
        between = between;
        notes = notes;
        steps = p;
        own = [];
        own_told = [];
        begun = inl (refl, refl);
        text_is = sym (append-nil text);
        told_is = sym (append-nil told);
      }))
      none

  -- at what comes next
  pub at_next : (after : List Stop) (x : Seen) (c : Told) (l m : Account CheckTrouble) → IsNext s now (Some x) after → Hears k l []
      → Does b c l m (λ text told. IsSeenBegun s check t folder x between notes text told) → Does a c h m (λ text told. IsWalkBegun s check t folder stops old noted text told)
  at_next after x c l m is none d =
      both a b c h k m (λ text told. AreSteps s check t folder far.all old noted text told between notes) (λ text told. IsSeenBegun s check t folder x between notes text told)
      (λ text told. IsWalkBegun s check t folder stops old noted text told) far.does (behind_silence b c k l m (λ text told. IsSeenBegun s check t folder x between notes text told) none d)
      (λ text told own own_told p q. record {
        first = far.all;
        now = now;
        came = far.came;
        found = text;
        found_told = told;
        between = between;
        notes = notes;
        steps = p;
        own = own;
        own_told = own_told;
        begun = inr (x, after, is, q);
        text_is = refl;
        told_is = refl;
      })

module _ (s : Shelved) (check : Check) (t : Taken) (folder : Option (List ℕ)) (x y : Seen) (old : Tally) (noted : Notes) where
  -- this is what comes next
  pub seen_begun : (out out' : Told) (h k : Account CheckTrouble) → y ≡ x → Does out out' h k (λ text told. IsSeenBegun s check t folder x old noted text told)
      → Does out out' h k (λ text told. IsSeenBegun s check t folder y old noted text told)
  seen_begun out out' h k is d = subst (λ (z : Seen). Does out out' h k (λ text told. IsSeenBegun s check t folder z old noted text told)) (sym is) d

  -- and nothing comes of it
  pub seen_idle : (out : Told) (h k : Account CheckTrouble) → y ≡ x → IsSeenBegun s check t folder x old noted [] [] → k ≡ h
      → Does out out h k (λ text told. IsSeenBegun s check t folder y old noted text told)
  seen_idle out h k is none same = seen_begun out out h k is (idle out h k (λ text told. IsSeenBegun s check t folder x old noted text told) same none)

-- ---- troubles

-- where the next one isn't told, the first were
module _ {A : Type 0} where
  first_of : (xs done : List A) → map (λ (x : A). x) done ≡ take (length done) xs → xs ≡ done ++ drop (length done) xs
  first_of xs done front = sym (take-append-drop (length done) xs) ∙ ap (λ (l : List A). l ++ drop (length done) xs) (sym front ∙ map-id done)

pub left_begun : (h k l : Account CheckTrouble) (xs done : List (String Global)) → map (λ (x : String Global). x) done ≡ take (length done) xs → Hears h k (map left_trouble done) → l ≡ k
    → Tells h l (AreFirst (map left_trouble xs))
left_begun h k l xs done front tells same = record {
  told = map left_trouble done;
  tells = subst (λ (a : Account CheckTrouble). Hears h a (map left_trouble done)) (sym same) tells;
  is = (map left_trouble (drop (length done) xs), ap (map left_trouble) (first_of xs done front) ∙ map-append left_trouble done (drop (length done) xs));
}

pub passed_begun : (h k l : Account CheckTrouble) (xs done : List CheckTrouble) (old new : Tally) → map (λ (x : CheckTrouble). x) done ≡ take (length done) xs → PassesAll done h k old new → l ≡ k
    → Tells h l (AreFirstPassed xs)
passed_begun h k l xs done old new front p same = record {
  told = done;
  tells = subst (λ (a : Account CheckTrouble). Hears h a done) (sym same) p.tells;
  is = ((drop (length done) xs, first_of xs done front), p.have_memory);
}

-- ---- license texts

-- what is told of files as a whole is written in part
pub wholes_begun : (check : Check) (a b : Told) (had wholes : List Whole) (old : Tally) (text : List ℕ) → text ≡ wholes_text check.format (is_clean old) had → had ≡ wholes
    → AppendsBeginning a.bytes b.bytes text → Writes a b (IsBeginning (IsWholesText check wholes old))
wholes_begun check a b had wholes old text is are p =
    part_of_text a b (IsWholesText check wholes old) text (subst (λ (ws : List Whole). text ≡ wholes_text check.format (is_clean old) ws) are is) p

module _ (check : Check) (folder : List ℕ) (used files : List (List ℕ)) where
  -- what is owed is written in part
  pub owed_written : (troubles : List CheckTrouble) (out out' : Told) (h : Account CheckTrouble) (old : Tally) → are_none troubles ≡ true
      → Writes out out' (IsBeginning (IsWholesText check (owed_by folder used files) old))
      → Does out out' h h (λ text told. IsOwedBegun check folder used files troubles old text told)
  owed_written (t ∷ ts) out out' h old none w = absurd (true≢false (sym none))
  owed_written [] out out' h old none w =
      written_alone out out' h (IsBeginning (IsWholesText check (owed_by folder used files) old)) (λ text told. IsOwedBegun check folder used files [] old text told) w
      (λ text is. (is, refl))

  -- why not all can be had is told in part
  pub owed_told : (troubles : List CheckTrouble) (out : Told) (h k : Account CheckTrouble) (old : Tally) → are_none troubles ≡ false → Tells h k (AreFirstPassed troubles)
      → Does out out h k (λ text told. IsOwedBegun check folder used files troubles old text told)
  owed_told [] out h k old some p = absurd (true≢false some)
  owed_told (t ∷ ts) out h k old some p = heard_alone out h k p.told (λ text told. IsOwedBegun check folder used files (t ∷ ts) old text told) p.tells (refl, p.is)

-- the files of the folder aren't had
pub texts_unhad : (s : Shelved) (check : Check) (folder : List ℕ) (used : List (List ℕ)) (old : Tally) (out : Told) (h : Account CheckTrouble)
    → Does out out h h (λ text told. IsTextsStepBegun s check (Some folder) used old text told)
texts_unhad s check folder used old out h = nothing out h (λ text told. IsTextsStepBegun s check (Some folder) used old text told) (inl (refl, refl))

abbrev first_refused : List CheckTrouble → Bool
first_refused [] = false
first_refused (t ∷ ts) = is_of_memory t

module _ (s : Shelved) (check : Check) (folder : List ℕ) (used files : List (List ℕ)) (old : Tally) where
  -- that a folder can't be looked at is told, and so not for want of memory
  not_of_memory : (e : Error) (path : String Global) (ts : List CheckTrouble) (u : CheckTrouble) (us others : List CheckTrouble) → error_kind e ≡ OutOfMemory
      → ts ≡ trouble.Unreadable path e ∷ [] → ts ≡ (u ∷ us) ++ others → list_any is_of_memory (u ∷ us) ≡ false → ⊥
  not_of_memory e path ts u us others kind is whole had =
      let one : is_of_memory u ≡ refuses_memory e = ap first_refused (sym whole ∙ is) in
      true≢false (sym (no_memory e kind) ∙ sym one ∙ first_had (is_of_memory u) (list_any is_of_memory us) had)

  had_begun : (troubles : List CheckTrouble) (text : List ℕ) (told : List CheckTrouble) → AreTextsOr s folder files troubles → IsOwedBegun check folder used files troubles old text told
      → IsTextsStepBegun s check (Some folder) used old text told
  had_begun [] text told (inl x) p = inr (record { files = files; troubles = []; texts = x; owed = p })
  had_begun [] text told (inr x) p = absurd (true≢false (ap are_none x.2.troubles_are))
  had_begun (t ∷ ts) text told (inl x) p = inr (record { files = files; troubles = t ∷ ts; texts = x; owed = p })
  had_begun (t ∷ ts) text [] (inr x) p = inl (p.0, refl)
  had_begun (t ∷ ts) text (u ∷ us) (inr x) p = absurd (not_of_memory x.0 x.2.path (t ∷ ts) u us p.1.0.0 x.1 x.2.troubles_are p.1.0.1 p.1.1)

  pub texts_begun : (troubles : List CheckTrouble) (out out' : Told) (h k : Account CheckTrouble) → AreTextsOr s folder files troubles
      → Does out out' h k (λ text told. IsOwedBegun check folder used files troubles old text told)
      → Does out out' h k (λ text told. IsTextsStepBegun s check (Some folder) used old text told)
  texts_begun troubles out out' h k texts d =
      known out out' h k (λ text told. IsOwedBegun check folder used files troubles old text told) (λ text told. IsTextsStepBegun s check (Some folder) used old text told) d
      (λ text told p. had_begun troubles text told texts p)

-- ---- the end of a folder

module _ (is : Bool) (s : Shelved) (check : Check) (is_told : Bool) (folder : Option (List ℕ)) (noted : Notes) (old : Tally) where
  -- in what was left
  pub end_in_left : (out : Told) (h k : Account CheckTrouble) → Tells h k (AreFirst (map left_trouble noted.left_behind))
      → Does out out h k (λ text told. IsEndBegun is s check is_told folder noted old text told)
  end_in_left out h k p = heard_alone out h k p.told (λ text told. IsEndBegun is s check is_told folder noted old text told) p.tells (in_left p.told p.is)

  module _ (all : is ≡ true) (a b : Told) (h k l : Account CheckTrouble) (left : Hears h k (map left_trouble noted.left_behind)) where
    -- in license texts
    pub end_in_texts : Does a b k l (λ text told. IsTextsStepBegun s check folder noted.used old text told) → Does a b h l (λ text told. IsEndBegun is s check is_told folder noted old text told)
    end_in_texts d = record {
      text = d.text;
      told = map left_trouble noted.left_behind ++ d.told;
      writes = d.writes;
      tells = hears_trans h k l (map left_trouble noted.left_behind) d.told left d.tells;
      is = in_texts d.text d.told all d.is;
    }

    -- in files without a license
    pub end_in_bare : (c : Told) (between : Tally) → Does a b k l (λ text told. IsTextsStep s check folder noted.used old text told between)
        → Writes b c (IsBareBegun is_told check noted.untagged between) → Does a c h l (λ text told. IsEndBegun is s check is_told folder noted old text told)
    end_in_bare c between d w = record {
      text = d.text ++ w.0;
      told = map left_trouble noted.left_behind ++ d.told;
      writes = Appends-trans a.bytes b.bytes c.bytes d.text w.0 d.writes w.1;
      tells = hears_trans h k l (map left_trouble noted.left_behind) d.told left d.tells;
      is = in_bare d.text w.0 d.told between all d.is w.2;
    }

-- ---- a folder

module _ (s : Shelved) (check : Check) (m : Manner) (path : List ℕ) (old : Tally) where
  pub tree_unseen : (out : Told) (h k : Account CheckTrouble) → k ≡ h → Does out out h k (λ text told. IsTreeBegun s check m path old text told)
  tree_unseen out h k same = idle out h k (λ text told. IsTreeBegun s check m path old text told) same before_walk

  module _ (folder : Option (List ℕ)) (stops : List Stop) (noted : Notes) (texts : IsTextsFolder s m.texts path folder) (none : noted ≡ nothing_noted) where
    -- in its walk
    pub tree_in_walk : (a b : Told) (h k : Account CheckTrouble) → Does a b h k (λ text told. IsWalkBegun s check m.taken folder stops old noted text told) → IsBegun s path stops
        → Does a b h k (λ text told. IsTreeBegun s check m path old text told)
    tree_in_walk a b h k d begun =
        known a b h k (λ text told. IsWalkBegun s check m.taken folder stops old noted text told) (λ text told. IsTreeBegun s check m path old text told) d
        (λ text told p. in_walk folder stops text told texts begun (subst (λ (n : Notes). IsWalkBegun s check m.taken folder stops old n text told) none p))

    -- in its end
    pub tree_in_end : (noted' : Notes) (a b c : Told) (h k l : Account CheckTrouble) (between : Tally) → IsWalked s check m.taken folder stops old noted a b h k between noted'
        → Does b c k l (λ text told. IsEndBegun (is_all m.taken) s check m.untagged folder noted' between text told) → IsBegun s path stops
        → Does a c h l (λ text told. IsTreeBegun s check m path old text told)
    tree_in_end noted' a b c h k l between w d begun =
        both a b c h k l (λ text told. AreSteps s check m.taken folder w.all old noted text told between noted')
        (λ text told. IsEndBegun (is_all m.taken) s check m.untagged folder noted' between text told) (λ text told. IsTreeBegun s check m path old text told) w.does d
        (λ text told own own_told p q.
        in_end folder w.all text own told own_told between noted' texts (stops, begun, w.sees) (subst (λ (n : Notes). AreSteps s check m.taken folder w.all old n text told between noted') none p) q)
