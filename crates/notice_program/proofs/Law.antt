-- A run whose page is written.
use Rattle.std.proofs.Common.{◌≡◌, ℕ, ◌<◌, ◌==◌, Bool, true, false, List, [], ◌∷◌, length, map, refl, sym, ap, ◌∙◌, subst, arith}
use Rattle.std.specs.Prelude.{◌++◌, Option, None, Some, is_some, option_map}
use Rattle.std.specs.Global.{Vec}
use Rattle.std.proofs.lemmas.Option.{none-some}
use Rattle.shelves.specs.Shelf.{Shelved}
use Rattle.spdx_requirement.specs.Rows.{Rows}
use Rattle.list_program.specs.Named.{InsideBytes}
use Rattle.package_files.specs.All.{path_in}
use Rattle.package_files.proofs.Each.{whole}
use Rattle.package_files.specs.declared.fault.FileFault.{FileFault}
use Rattle.package_files.specs.declared.listed.Listed.{Listed}
use Rattle.choice_program.specs.declared.choosing.ChoiceTrouble.{ChoiceTrouble}
use Rattle.choice_program.specs.declared.choosing.ChoiceTrouble.TheVariants as choice
use Rattle.choice_program.specs.declared.choosing.Chosen.{Chosen}
use Rattle.choice_program.specs.Chosen.{IsChosen}
use Rattle.owed_texts.specs.Held.{Text}
use Rattle.owed_texts.specs.Own.{Read}
use Rattle.notice_told.specs.declared.lacks.GeneralText.{GeneralText}
use Rattle.notice_told.specs.declared.lacks.Lack.{Lack}
use Rattle.notice_told.specs.declared.packages.Package.{Package}
use Rattle.notice_told.specs.declared.page.NoticeText.{NoticeText}
use Rattle.notice_told.specs.Lacks.{Lacked, lacks_in, missing, seen_lack}
use Rattle.notice_told.specs.Page.{IsNotice, told_of}
use Rattle.notice_program.specs.declared.end.End.{End}
use Rattle.notice_program.specs.declared.end.End.TheVariants as end
use Rattle.notice_program.specs.declared.end.ToldPage.{ToldPage}
use Rattle.notice_program.specs.declared.end.Request.{Request}
use Rattle.notice_program.specs.declared.run.Run.{Run}
use Rattle.notice_program.specs.Ends.{choice_status, end_status, page_status}
use Rattle.notice_program.specs.Law.{AreAllNoticed, HasNoChoice, IsWhole, IsWrittenExactly, is_written, page_bytes, page_of}
use Rattle.notice_program.specs.Noted.{AreSorted, Noted, noted_by, noted_in}
use Rattle.notice_program.specs.Page as page
use Rattle.notice_program.specs.Page.{IsChosenEnd, IsHeldEnd, IsNotedEnd, IsPackagesEnd, IsPlacedEnd, look_of, reading_of}
use Rattle.notice_program.specs.Run as run
use Rattle.notice_program.specs.Run.{IsEnd, IsFilesEnd, IsRun, status_of}
use Rattle.notice_program.specs.Taken.{Taken, packages_in, taken_in}
use Rattle.notice_program.specs.Told.{IsTold, IsToldBy, has_own, lacking_of, missing_by, unless_missing}
use Rattle.notice_program.proofs.Counts.{each_taken, none_left_out}
use Rattle.notice_program.proofs.Standing.{each_is_there}

-- ---- a page is written exactly if the status is 0

chosen_not : (t : ChoiceTrouble) → false ≡ (choice_status t == 0)
chosen_not (choice.NoChoices us) = refl
chosen_not (choice.NoneTogether w) = refl
chosen_not (choice.NoLicensee n r) = refl
chosen_not (choice.Policy t) = refl
chosen_not choice.Memory = refl

page_exactly : (e : End) → (p : Option (Vec ℕ)) → page_of e ≡ option_map page_bytes p → end_status e ≡ page_status p → is_some (page_of e) ≡ (end_status e == 0)
page_exactly e None is status = ap is_some is ∙ sym (ap (λ (n : ℕ). n == 0) status)
page_exactly e (Some v) is status = ap is_some is ∙ sym (ap (λ (n : ℕ). n == 0) status)

end_exactly : (e : End) → is_some (page_of e) ≡ (end_status e == 0)
end_exactly end.LeftOut = refl
end_exactly (end.NoChoice t) = chosen_not t
end_exactly (end.NoFolder t) = refl
end_exactly (end.NoOwn ts) = refl
end_exactly (end.NoGeneral ts) = refl
end_exactly (end.NotUtf8 n) = refl
end_exactly (end.Told n) = page_exactly (end.Told n) n.page refl refl

pub written_exactly : (r : Run) → IsWrittenExactly r
written_exactly r = end_exactly r.end

zero_if : (b : Bool) (n : ℕ) → b ≡ true → b ≡ (n == 0) → n < 1
zero_if b n is same = grind (arith, is, same)

-- ---- what is on the page

page_there : (p : Option (Vec ℕ)) → page_status p < 1 → (v : Vec ℕ) × (p ≡ Some v)
page_there None lt = absurd (omega (arith, lt))
page_there (Some v) lt = (v, refl)

none_left : (strict : Bool) (lacks : List Lack) (bytes v : Vec ℕ) → unless_missing strict lacks bytes ≡ Some v → (Some bytes ≡ Some v) × (strict ≡ true → lacks ≡ [])
none_left true (l ∷ lacks) bytes v e = absurd (none-some v e)
none_left true [] bytes v e = (e, λ _. refl)
none_left false lacks bytes v e = (e, λ is. absurd (let bad : false ≡ true = is in cc))

whole_page : (a : Request) (taken : List Taken) (reads : List (List Read)) (packages : List Package) (general : List GeneralText) (text : NoticeText) (n : ToldPage) → map noted_by packages ≡ noted_in taken reads
    → length packages ≡ length taken → IsNotice (look_of a) packages general text → option_map page_bytes n.page ≡ Some text.bytes.items
    → (has_own a.folders.own ≡ true → map missing_by n.missing.items ≡ map lacking_of (map seen_lack text.missing.items)) → (has_own a.folders.own ≡ true → a.is_strict ≡ true → text.missing.items ≡ [])
    → IsWhole a taken n
whole_page a taken reads packages general text n are all is page_is missing_are none = record {
  reads = reads;
  packages = packages;
  told = told_of is.bands is.turned (is.own ++ is.others);
  missing = missing general (lacks_in packages);
  packages_are = are;
  none_left_out = all;
  page_is = page_is ∙ ap (λ (z : List ℕ). Some z) is.bytes_are;
  each = each_is_there (has_own a.folders.own) packages general is.own is.others is.texts_are;
  missing_told = λ own. missing_are own ∙ ap (map lacking_of) is.missing_are;
  none_missing = λ own strict. sym is.missing_are ∙ ap (map seen_lack) (none own strict);
}

told_whole : (a : Request) (taken : List Taken) (reads : List (List Read)) (packages : List Package) (general : List GeneralText) (text : NoticeText) (n : ToldPage) (v : Vec ℕ) (own : Bool) → has_own a.folders.own ≡ own
    → map noted_by packages ≡ noted_in taken reads → length packages ≡ length taken → IsNotice (look_of a) packages general text → IsToldBy own a.is_strict text n → n.page ≡ Some v → IsWhole a taken n
told_whole a taken reads packages general text n v true own are all is told there =
    let left = none_left a.is_strict text.missing.items text.bytes v (sym told.page_is ∙ there) in
    whole_page a taken reads packages general text n are all is (ap (option_map page_bytes) (there ∙ sym left.0)) (λ _. told.missing_are) (λ _ strict. left.1 strict)
told_whole a taken reads packages general text n v false own are all is told there =
    whole_page a taken reads packages general text n are all is (ap (option_map page_bytes) told.page_is)
    (λ other. absurd (let bad : false ≡ true = sym own ∙ other in cc)) (λ other strict. absurd (let bad : false ≡ true = sym own ∙ other in cc))

-- ---- how the run ended

abbrev IsToldWhole : Request → List Taken → End → Type 0
IsToldWhole a taken e = (n : ToldPage) × (e ≡ end.Told n) × IsWhole a taken n

held_whole : (a : Request) (taken : List Taken) (reads : List (List Read)) (packages : List Package) (held : List Text) {e : End} → map noted_by packages ≡ noted_in taken reads → length packages ≡ length taken → IsHeldEnd a packages held e → end_status e < 1 → IsToldWhole a taken e
held_whole a taken reads packages held are all (page.told general text {n = n} sorted is told) lt =
    let there = page_there n.page lt in
    (n, refl, told_whole a taken reads packages general text n there.0 (has_own a.folders.own) refl are all is told there.1)
held_whole a taken reads packages held are all (page.not_utf8 general sorted is) lt = absurd (omega (arith, lt))

packages_whole : (s : Shelved) (a : Request) (taken : List Taken) (reads : List (List Read)) (packages : List Package) {e : End} → map noted_by packages ≡ noted_in taken reads → length packages ≡ length taken → IsPackagesEnd s a packages e → end_status e < 1 → IsToldWhole a taken e
packages_whole s a taken reads packages are all (page.page held are_held none ends) lt = held_whole a taken reads packages _ are all ends lt
packages_whole s a taken reads packages are all (page.no_general held are_held some) lt = absurd (omega (arith, lt))

placed_whole : (s : Shelved) (a : Request) (taken : List Taken) {e : End} → IsPlacedEnd s a taken e → end_status e < 1 → IsToldWhole a taken e
placed_whole s a taken (page.noted reads own ends) lt =
    packages_whole s a taken reads ends.0 ends.1 (none_left_out s (reading_of a) taken reads ends.0 own ends.1) ends.2 lt
placed_whole s a taken (page.no_own reads own some) lt = absurd (omega (arith, lt))

chosen_whole : (s : Shelved) (a : Request) (taken : List Taken) {e : End} → IsChosenEnd s a taken e → end_status e < 1 → IsToldWhole a taken e
chosen_whole s a taken (page.placed there ends) lt = placed_whole s a taken ends lt
chosen_whole s a taken (page.no_folder gone) lt = absurd (omega (arith, lt))

abbrev IsFilesWhole : Shelved → List ℕ → Rows → Request → List Listed → End → Type 0
IsFilesWhole s replacements c a files e = (choices : Chosen) × IsChosen s replacements c a.accepted a.one_for_all (packages_in files) choices × IsToldWhole a (taken_in files choices) e

not_low : (t : ChoiceTrouble) → choice_status t < 1 → ⊥
not_low (choice.NoChoices us) lt = absurd (omega (arith, lt))
not_low (choice.NoneTogether w) lt = absurd (omega (arith, lt))
not_low (choice.NoLicensee n r) lt = absurd (omega (arith, lt))
not_low (choice.Policy t) lt = absurd (omega (arith, lt))
not_low choice.Memory lt = absurd (omega (arith, lt))

files_whole : (s : Shelved) (replacements : List ℕ) (c : Rows) (a : Request) (files : List Listed) {e : End} → IsFilesEnd s replacements c a files e → end_status e < 1 → IsFilesWhole s replacements c a files e
files_whole s replacements c a files (run.chosen choices are ends) lt = (choices, are, chosen_whole s a (taken_in files choices) ends lt)
files_whole s replacements c a files (run.no_choice t is kept) lt = absurd (not_low t lt)

end_whole : (s : Shelved) (replacements : List ℕ) (c : Rows) (a : Request) (files : List Listed) (left : List FileFault) {e : End} → IsEnd s replacements c a files left e → end_status e < 1 → (left ≡ []) × IsFilesWhole s replacements c a files e
end_whole s replacements c a files left (run.left some) lt = absurd (omega (arith, lt))
end_whole s replacements c a files left (run.read none ends) lt = (none, files_whole s replacements c a files ends lt)

pub all_noticed : (s : Shelved) (inside : InsideBytes) (replacements : List ℕ) (a : Request) (r : Run) → IsRun s inside replacements a r → status_of r < 1 → AreAllNoticed s inside replacements a r
all_noticed s inside replacements a r is lt =
    let ends = end_whole s replacements is.catalogue a r.files.items r.left_out.items is.runs.ends lt in
    record {
      catalogue = is.catalogue;
      choices = ends.1.0;
      notice = ends.1.2.0;
      list_is = is.list_is;
      reads = whole s a.wanted (map path_in a.paths.now) r.files.items r.left_out.items is.runs.reads ends.0;
      chosen = ends.1.1;
      each_taken = each_taken s replacements is.catalogue a.accepted a.one_for_all r.files.items ends.1.0 ends.1.1;
      ends = ends.1.2.1;
      whole = ends.1.2.2;
    }

-- ---- nothing is written without choices

not_true : (b : Bool) → (b ≡ true → ⊥) → b ≡ false
not_true true h = absurd (h refl)
not_true false h = refl

pub none_written : (s : Shelved) (inside : InsideBytes) (replacements : List ℕ) (a : Request) (r : Run) → IsRun s inside replacements a r → HasNoChoice s inside replacements a r → is_written r ≡ false
none_written s inside replacements a r is none =
    not_true (is_written r) (λ there. let all = all_noticed s inside replacements a r is (zero_if (is_written r) (status_of r) there (written_exactly r)) in none all.catalogue all.choices all.list_is all.chosen)
