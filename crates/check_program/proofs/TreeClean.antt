-- What a count that passes says of a folder.
use Rattle.std.proofs.Common.{◌≡◌, ◌∙◌, refl, sym, ap, inl, inr, ℕ, ◌==◌, ◌&&◌, Bool, true, false, List, [], ◌∷◌, ◌++◌, append_assoc, append-nil, Option, None, Some, is_some, length, map, subst, arith}
use Rattle.std.specs.Prelude.{All, String, string_bytes, if◌then◌else◌}
use Rattle.std.specs.declared.alloc.Global.{Global}
use Rattle.std.proofs.lemmas.List.{length-map, nil_from_length}
use Rattle.std.proofs.lemmas.List.Elements.{All-nil, All-cons, All-append}
use Rattle.shelves.specs.Shelf.{Shelved}
use Rattle.source_trees.specs.Readings.{is_all}
use Rattle.source_trees.specs.declared.reading.Taken.{Taken}
use Rattle.source_trees.specs.declared.walk.Seen.{Seen}
use Rattle.source_trees.specs.declared.walk.Seen.TheVariants as seen
use Rattle.spdx_check.specs.declared.check.Check.{Check}
use Rattle.check_sources.specs.Owed.{bare_at, owed_by}
use Rattle.check_sources.proofs.Telling.{tells_all}
use Rattle.check_files.specs.declared.trouble.CheckTrouble.{CheckTrouble}
use Rattle.check_files.specs.declared.trouble.CheckTrouble.TheVariants as trouble
use Rattle.check_files.specs.Clean.{IsPassing}
use Rattle.check_files.specs.Noted.{Grows, Notes}
use Rattle.check_files.specs.Tally.{Tally, with_untagged}
use Rattle.check_files.proofs.Clean.{file_clean, file_licensed, file_use, not_passed, sum_none}
use Rattle.check_program.specs.TreeClean as clean
use Rattle.check_program.specs.TreeClean.{AreLicensedBy, AreSeenUses, AreTextsCleanBy, IsSeenClean, IsSeenLicensed, IsSeenUse, IsTreeClean}
use Rattle.check_program.specs.Ends.{AreOwed, AreTexts, IsBareStep, IsEndBy, IsTextsStep}
use Rattle.check_program.specs.Steps.{ArePassed, AreSteps, IsSeenStep, listed, more, none, trouble_of}
use Rattle.check_program.specs.Trees.{IsTreeChecked, IsTreeStep, Manner}

-- ---- what is passed over

-- nothing was, where the count passes
none_passed : (ts : List CheckTrouble) (old : Tally) (text : List ℕ) (told : List CheckTrouble) (new : Tally) → ArePassed ts old text told new → IsPassing new → IsPassing old × (ts ≡ [])
none_passed [] old text told new h passes = (subst IsPassing h.new_is passes, refl)
none_passed (t ∷ ts) old text told new h passes = absurd (not_passed old new h.new_is passes)

not_listed : (t : CheckTrouble) → listed (Some t) ≡ [] → ⊥
not_listed t e = cc

named : (n : String Global) (unnamed : ℕ) (none : Bool) → (unnamed == 0) ≡ none → listed (trouble_of (seen.Folder n unnamed)) ≡ [] → unnamed ≡ 0
named n unnamed true e h = grind (arith, e)
named n unnamed false e h =
    absurd (not_listed _ (subst (λ (b : Bool). listed (if b then None else Some (trouble.Unnamed n unnamed)) ≡ []) e h))

-- ---- what a walk comes to

module _ (s : Shelved) (check : Check) (t : Taken) (folder : Option (List ℕ)) where
  seen_clean : (x : Seen) (old : Tally) (noted : Notes) (text : List ℕ) (told : List CheckTrouble) (new : Tally) (noted' : Notes) → IsSeenStep s check t folder x old noted text told new noted'
      → IsPassing new → IsPassing old × IsSeenClean s check t x
  seen_clean (seen.File n) old noted text told new noted' h passes = file_clean s check t folder (string_bytes n) old noted text told new noted' h passes
  seen_clean (seen.LeftOut n) old noted text told new noted' h passes = (let p = subst IsPassing h.2 passes in record { is_whole = p.is_whole; none_refused = p.none_refused; none_owed = p.none_owed; none_bare = p.none_bare }, tt)
  seen_clean (seen.LeftBehind n) old noted text told new noted' h passes = (subst IsPassing h.2 passes, tt)
  seen_clean (seen.Folder n unnamed) old noted text told new noted' h passes =
      let parts = none_passed (listed (trouble_of (seen.Folder n unnamed))) old text told new h.0 passes in
      (parts.0, named n unnamed (unnamed == 0) refl parts.1)
  seen_clean (seen.Unread n e) old noted text told new noted' h passes =
      let parts = none_passed (listed (trouble_of (seen.Unread n e))) old text told new h.0 passes in absurd (not_listed _ parts.1)

  all_clean : {all : List Seen} {old : Tally} {noted : Notes} {text : List ℕ} {told : List CheckTrouble} {new : Tally} {noted' : Notes} → AreSteps s check t folder all old noted text told new noted'
      → IsPassing new → IsPassing old × All (IsSeenClean s check t) all
  all_clean none passes = (passes, All-nil (IsSeenClean s check t))
  all_clean (more {all = all} {old = old} {between = between} {new = new} {noted = noted} {notes = notes} {noted' = noted'} x own own_told before step) passes =
      let last = seen_clean x between notes own own_told new noted' step passes in
      let others = all_clean before last.0 in
      (others.0, All-append (IsSeenClean s check t) all (x ∷ []) others.1 (All-cons (IsSeenClean s check t) x [] last.1 (All-nil (IsSeenClean s check t))))

-- the names that expressions need are noted one after the other
module _ (s : Shelved) (check : Check) (t : Taken) (folder : Option (List ℕ)) where
  -- nothing is added
  no_use : (old new : Notes) (x : Seen) → new.used ≡ old.used → IsSeenUse s check t folder x [] → Grows old.used new.used (IsSeenUse s check t folder x)
  no_use old new x e is = ([], e ∙ sym (append-nil old.used), is)

  seen_use : (x : Seen) (old : Tally) (noted : Notes) (text : List ℕ) (told : List CheckTrouble) (new : Tally) (noted' : Notes) → IsSeenStep s check t folder x old noted text told new noted'
      → IsPassing new → Grows noted.used noted'.used (IsSeenUse s check t folder x)
  seen_use (seen.File n) old noted text told new noted' h passes = file_use s check t folder (string_bytes n) old noted text told new noted' h passes
  seen_use (seen.LeftOut n) old noted text told new noted' h passes = no_use noted noted' (seen.LeftOut n) (ap (λ (x : Notes). x.used) h.3) refl
  seen_use (seen.LeftBehind n) old noted text told new noted' h passes = no_use noted noted' (seen.LeftBehind n) (ap (λ (x : Notes). x.used) h.3) refl
  seen_use (seen.Folder n unnamed) old noted text told new noted' h passes = no_use noted noted' (seen.Folder n unnamed) (ap (λ (x : Notes). x.used) h.1) refl
  seen_use (seen.Unread n e) old noted text told new noted' h passes = no_use noted noted' (seen.Unread n e) (ap (λ (x : Notes). x.used) h.1) refl

  all_uses : {all : List Seen} {old : Tally} {noted : Notes} {text : List ℕ} {told : List CheckTrouble} {new : Tally} {noted' : Notes} → AreSteps s check t folder all old noted text told new noted'
      → IsPassing new → Grows noted.used noted'.used (AreSeenUses s check t folder all)
  all_uses (none {noted = noted}) passes = ([], sym (append-nil noted.used), clean.none)
  all_uses (more {all = all} {old = old} {between = between} {new = new} {noted = noted} {notes = notes} {noted' = noted'} x own own_told before step) passes =
      let last = seen_use x between notes own own_told new noted' step passes in
      let others = all_uses before (seen_clean s check t folder x between notes own own_told new noted' step passes).0 in
      (others.0 ++ last.0, last.1 ∙ ap (λ (names : List (List ℕ)). names ++ last.0) others.1 ∙ append_assoc noted.used others.0 last.0, clean.more x last.0 others.2 last.2)

  -- no file is noted to be without a license
  seen_licensed : (x : Seen) (old : Tally) (noted : Notes) (text : List ℕ) (told : List CheckTrouble) (new : Tally) (noted' : Notes) → IsSeenStep s check t folder x old noted text told new noted'
      → IsPassing new → noted'.untagged ≡ [] → (noted.untagged ≡ []) × IsSeenLicensed s t folder x
  seen_licensed (seen.File n) old noted text told new noted' h passes e = file_licensed s check t folder (string_bytes n) old noted text told new noted' h passes e
  seen_licensed (seen.LeftOut n) old noted text told new noted' h passes e = (sym (ap (λ (x : Notes). x.untagged) h.3) ∙ e, tt)
  seen_licensed (seen.LeftBehind n) old noted text told new noted' h passes e = (sym (ap (λ (x : Notes). x.untagged) h.3) ∙ e, tt)
  seen_licensed (seen.Folder n unnamed) old noted text told new noted' h passes e = (sym (ap (λ (x : Notes). x.untagged) h.1) ∙ e, tt)
  seen_licensed (seen.Unread n fault) old noted text told new noted' h passes e = (sym (ap (λ (x : Notes). x.untagged) h.1) ∙ e, tt)

  all_licensed : {all : List Seen} {old : Tally} {noted : Notes} {text : List ℕ} {told : List CheckTrouble} {new : Tally} {noted' : Notes} → AreSteps s check t folder all old noted text told new noted'
      → IsPassing new → noted'.untagged ≡ [] → All (IsSeenLicensed s t folder) all
  all_licensed none passes e = All-nil (IsSeenLicensed s t folder)
  all_licensed (more {all = all} {old = old} {between = between} {new = new} {noted = noted} {notes = notes} {noted' = noted'} x own own_told before step) passes e =
      let last = seen_licensed x between notes own own_told new noted' step passes e in
      let others = all_licensed before (seen_clean s check t folder x between notes own own_told new noted' step passes).0 last.0 in
      All-append (IsSeenLicensed s t folder) all (x ∷ []) others (All-cons (IsSeenLicensed s t folder) x [] last.1 (All-nil (IsSeenLicensed s t folder)))

-- ---- the end of a folder

module _ (s : Shelved) (check : Check) where
  -- no text is missing and none is unused
  abbrev AreOwedNone : Option (List ℕ) → List (List ℕ) → Type 0
  AreOwedNone None used = Unit {0}
  AreOwedNone (Some folder) used = (files : List (List ℕ)) × AreTexts s folder files [] × (owed_by folder used files ≡ [])

  owes_none : (folder : List ℕ) (used files : List (List ℕ)) (troubles : List CheckTrouble) (old : Tally) (text : List ℕ) (told : List CheckTrouble) (new : Tally) → AreTexts s folder files troubles
      → AreOwed check folder used files troubles old text told new → IsPassing new → IsPassing old × AreOwedNone (Some folder) used
  owes_none folder used files [] old text told new texts h passes =
      let now = subst IsPassing h.0.new_is passes in
      let counts = sum_none old.texts (length (owed_by folder used files)) now.none_owed in (
        record { is_whole = now.is_whole; none_refused = now.none_refused; none_owed = counts.0; none_bare = now.none_bare },
        (files, texts, nil_from_length (owed_by folder used files) counts.1),
      )
  owes_none folder used files (t ∷ ts) old text told new texts h passes = absurd (not_passed old new h.new_is passes)

  texts_none : (folder : Option (List ℕ)) (used : List (List ℕ)) (old : Tally) (text : List ℕ) (told : List CheckTrouble) (new : Tally)
      → IsTextsStep s check folder used old text told new → IsPassing new → IsPassing old × AreOwedNone folder used
  texts_none None used old text told new h passes = (subst IsPassing h.2 passes, tt)
  texts_none (Some folder) used old text told new h passes = owes_none folder used h.files h.troubles old text told new h.texts h.owed passes

  untagged_none : (has_texts : Bool) (count : ℕ) (old : Tally) → IsPassing (if has_texts then with_untagged count old else old) → IsPassing old
  untagged_none true count old h = record { is_whole = h.is_whole; none_refused = h.none_refused; none_owed = h.none_owed; none_bare = h.none_bare }
  untagged_none false count old h = h

  abbrev AreNoneBare : Bool → List (List ℕ) → Type 0
  AreNoneBare true untagged = untagged ≡ []
  AreNoneBare false untagged = Unit {0}

  bare_none : (is_told has_texts : Bool) (untagged : List (List ℕ)) (old : Tally) (text : List ℕ) (new : Tally)
      → IsBareStep is_told check has_texts untagged old text new → IsPassing new → IsPassing old × AreNoneBare is_told untagged
  bare_none true has_texts untagged old text new h passes =
      let now = subst IsPassing h.new_is passes in
      let counts = sum_none old.bare (length (map bare_at untagged)) now.none_bare in (
        record { is_whole = now.is_whole; none_refused = now.none_refused; none_owed = now.none_owed; none_bare = counts.0 },
        nil_from_length untagged (sym (length-map untagged bare_at) ∙ counts.1),
      )
  bare_none false has_texts untagged old text new h passes = (untagged_none has_texts (length untagged) old (subst IsPassing h.1 passes), tt)

  -- where texts and files without a license are told
  abbrev IsEndClean : Bool → Bool → Option (List ℕ) → Notes → Type 0
  IsEndClean true is_told folder noted = AreOwedNone folder noted.used × AreNoneBare is_told noted.untagged
  IsEndClean false is_told folder noted = Unit {0}

  end_none : (all is_told : Bool) (folder : Option (List ℕ)) (noted : Notes) (old : Tally) (text : List ℕ) (told : List CheckTrouble) (new : Tally)
      → IsEndBy all s check is_told folder noted old text told new → IsPassing new → IsPassing old × IsEndClean all is_told folder noted
  end_none true is_told folder noted old text told new h passes =
      let bare = bare_none is_told (is_some folder) noted.untagged h.between h.bare new h.files passes in
      let owed = texts_none folder noted.used old h.owed told h.between h.texts bare.0 in
      (owed.0, (owed.1, bare.1))
  end_none false is_told folder noted old text told new h passes = (subst IsPassing h.2 passes, tt)

-- ---- a folder

module _ (s : Shelved) (check : Check) (t : Taken) (all : List Seen) where
  texts_clean : (is_all is_told : Bool) (folder : Option (List ℕ)) (noted : Notes) → IsEndClean s check is_all is_told folder noted → AreSeenUses s check t folder all noted.used
      → AreTextsCleanBy is_all s check t folder all
  texts_clean false is_told folder noted h uses = tt
  texts_clean true is_told None noted h uses = tt
  texts_clean true is_told (Some folder) noted h uses =
      let files = h.0.0 in
      let each = tells_all folder noted.used files [] (sym h.0.2) refl in
      record { used = noted.used; files = files; uses = uses; texts = h.0.1; none_missing = each.0; none_unused = each.1 }

  licensed : (is_all is_told : Bool) (folder : Option (List ℕ)) (noted : Notes) → IsEndClean s check is_all is_told folder noted
      → (noted.untagged ≡ [] → All (IsSeenLicensed s t folder) all) → AreLicensedBy (is_all && is_told) s t folder all
  licensed false is_told folder noted h each = tt
  licensed true false folder noted h each = tt
  licensed true true folder noted h each = each h.1

checked_clean : (s : Shelved) (check : Check) (m : Manner) (path : List ℕ) (old : Tally) (text : List ℕ) (told : List CheckTrouble) (new : Tally)
    → IsTreeChecked s check m path old text told new → IsPassing new → IsPassing old × IsTreeClean s check m path
checked_clean s check m path old text told new h passes =
    let end = end_none s check (is_all m.taken) m.untagged h.folder h.noted h.between h.behind h.ends.behind new h.ends.ends passes in
    let within = all_clean s check m.taken h.folder h.steps end.0 in
    let uses = all_uses s check m.taken h.folder h.steps end.0 in
    let all_used = subst (λ (names : List (List ℕ)). AreSeenUses s check m.taken h.folder h.all names) (sym uses.1) uses.2 in (
      within.0,
      record {
        all = h.all;
        folder = h.folder;
        sees = h.sees;
        folder_is = h.folder_is;
        clean = within.1;
        texts = texts_clean s check m.taken h.all (is_all m.taken) m.untagged h.folder h.noted end.1 all_used;
        licensed = licensed s check m.taken h.all (is_all m.taken) m.untagged h.folder h.noted end.1 (λ e. all_licensed s check m.taken h.folder h.steps end.0 e);
      },
    )

-- where the count passes, it passed before, and all below the folder is clean
pub tree_clean : (s : Shelved) (check : Check) (m : Manner) (path : List ℕ) (old : Tally) (text : List ℕ) (told : List CheckTrouble) (new : Tally)
    → IsTreeStep s check m path old text told new → IsPassing new → IsPassing old × IsTreeClean s check m path
tree_clean s check m path old text told new (inl h) passes = checked_clean s check m path old text told new h passes
tree_clean s check m path old text told new (inr h) passes = absurd (not_passed old new h.new_is passes)
