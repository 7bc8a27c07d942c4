-- What `notice` writes and tells.
use Rattle.std.proofs.Common.{◌≡◌, ◌∙◌, ℕ, ◌<◌, ◌==◌, Bool, true, false, List, [], ◌++◌, ap, arith, map, refl, subst, sym}
use Rattle.std.specs.declared.alloc.Global.{Global}
use Rattle.std.specs.Global.{Vec}
use Rattle.std.specs.Prelude.{Option, None, Some, String, codes, is_some, option_map, unwrap_or}
use Rattle.check_files.specs.Told.{Hears, Tells, each}
use Rattle.choice_program.specs.declared.choosing.ChoiceTrouble.{ChoiceTrouble}
use Rattle.list_program.specs.Named.{InsideBytes}
use Rattle.notice_program.specs.Ends.{end_status}
use Rattle.notice_program.specs.Law.{AreAllNoticed, IsWrittenExactly, page_bytes, page_of}
use Rattle.notice_program.specs.Run as run
use Rattle.notice_program.specs.Run.{IsEnd, IsRun, status_of}
use Rattle.notice_program.specs.declared.end.End.{End}
use Rattle.notice_program.specs.declared.end.End.TheVariants as end
use Rattle.notice_program.specs.declared.end.Request.{Request}
use Rattle.notice_program.specs.declared.end.ToldPage.{ToldPage}
use Rattle.notice_program.specs.declared.run.Run.{Run}
use Rattle.package_files.specs.declared.fault.FileFault.{FileFault}
use Rattle.package_files.specs.declared.listed.Listed.{Listed}
use Rattle.shelves.specs.Shelf.{Shelved}
use Rattle.spdx_requirement.specs.Rows.{Rows}
use Rattle.spdx_troubles.specs.Causes.{file_trouble}
use Rattle.spdx_troubles.specs.declared.trouble.Trouble.{Trouble}
use Rattle.owed_texts.specs.declared.trouble.TextTrouble.{TextTrouble}
use Rattle.package_commands.specs.Gate.{AreBothTold}
use Rattle.package_commands.specs.Notice.{IsEndSaid, IsEndTold, IsNoPage, IsNoticeEnd, IsNoticeTold, IsPage, bytes_in, missing_trouble, totals_of}
use Rattle.package_commands.specs.Texts.{AreTextsTold, IsFolderTold, IsNotUtf8}
use Rattle.package_commands.specs.Unchosen.{AreUnchosenTold, IsOnly}
use Rattle.package_commands.proofs.Ends.{all_told, before_told, told_all}
use Rattle.spdx_commands.specs.Said.{text_of, told_of}
use Rattle.spdx_commands.specs.declared.said.Said.{Said}

-- ---- the page

pub page_text : (page : Option (Vec ℕ)) (v : Vec ℕ) → v.items ≡ [] → (unwrap_or page v).items ≡ bytes_in (option_map page_bytes page)
page_text None v is = is
page_text (Some bytes) v is = refl

pub page_told : (n : ToldPage) (before : List Trouble) (s : Said) (v : Vec ℕ) → s.before.items ≡ before → text_of s ≡ (unwrap_or n.page v).items → v.items ≡ []
    → Hears (each []) (each s.after.items) (map missing_trouble n.missing.items) → IsEndSaid before (end.Told n) s n.totals
page_told n before s v was text none tells =
    record { before_is = was; ends = record { text_is = text ∙ page_text n.page v none; told_are = tells; totals_are = refl } }

-- ---- why there is none

module _ (before : List Trouble) (e : End) (after : List Trouble) (s : Said) (totals : Option (String Global)) where
  unwritten : IsNoPage before after s totals → page_of e ≡ None → totals_of e ≡ None → IsEndTold e after → IsEndSaid before e s totals
  unwritten is none no_totals told = record {
    before_is = is.before_is;
    ends = record {
      text_is = is.text_is ∙ sym (ap bytes_in none);
      told_are = subst (IsEndTold e) (sym is.after_is) told;
      totals_are = is.no_totals ∙ sym no_totals;
    };
  }

  pub left_out_end : e ≡ end.LeftOut → after ≡ [] → IsNoPage before after s totals → IsEndSaid before e s totals
  left_out_end is empty blank = unwritten blank (ap page_of is) (ap totals_of is) (subst (λ (x : End). IsEndTold x after) (sym is) empty)

  pub no_choice_end : (t : ChoiceTrouble) → e ≡ end.NoChoice t → Tells (each []) (each after) (AreUnchosenTold t) → IsNoPage before after s totals → IsEndSaid before e s totals
  no_choice_end t is p blank = unwritten blank (ap page_of is) (ap totals_of is) (subst (λ (x : End). IsEndTold x after) (sym is) (all_told after (AreUnchosenTold t) p))

  pub no_folder_end : (t : TextTrouble) → e ≡ end.NoFolder t → Tells (each []) (each after) (IsOnly (IsFolderTold t.path t.why)) → IsNoPage before after s totals → IsEndSaid before e s totals
  no_folder_end t is p blank = unwritten blank (ap page_of is) (ap totals_of is) (subst (λ (x : End). IsEndTold x after) (sym is) (all_told after (IsOnly (IsFolderTold t.path t.why)) p))

  pub no_own_end : (ts : Vec TextTrouble) → e ≡ end.NoOwn ts → Tells (each []) (each after) (AreTextsTold (codes "a link out of the folder") ts.items) → IsNoPage before after s totals
      → IsEndSaid before e s totals
  no_own_end ts is p blank =
      unwritten blank (ap page_of is) (ap totals_of is) (subst (λ (x : End). IsEndTold x after) (sym is) (all_told after (AreTextsTold (codes "a link out of the folder") ts.items) p))

  pub no_general_end : (ts : Vec TextTrouble) → e ≡ end.NoGeneral ts → Tells (each []) (each after) (AreTextsTold (codes "a link out of the folder; --follow reads it") ts.items)
      → IsNoPage before after s totals → IsEndSaid before e s totals
  no_general_end ts is p blank =
      unwritten blank (ap page_of is) (ap totals_of is)
      (subst (λ (x : End). IsEndTold x after) (sym is) (all_told after (AreTextsTold (codes "a link out of the folder; --follow reads it") ts.items) p))

  pub not_utf8_end : (name : String Global) → e ≡ end.NotUtf8 name → Tells (each []) (each after) (IsOnly (IsNotUtf8 name)) → IsNoPage before after s totals → IsEndSaid before e s totals
  not_utf8_end name is p blank = unwritten blank (ap page_of is) (ap totals_of is) (subst (λ (x : End). IsEndTold x after) (sym is) (all_told after (IsOnly (IsNotUtf8 name)) p))

-- ---- what is said of a run

pub notice_told : (a : Request) (r : Run) (mid last : List Trouble) (s : Said) (totals : Option (String Global)) → Hears (each []) (each mid) (map file_trouble r.left_out.items)
    → Tells (each mid) (each last) (AreBothTold a.wanted.source r.files.items) → IsEndSaid last r.end s totals → IsNoticeTold a r (text_of s) (told_of s) totals
notice_told a r mid last s totals first reads ends =
    let (read, are, is) = before_told (map file_trouble r.left_out.items) mid last (AreBothTold a.wanted.source r.files.items) first reads in
    record {
      read = read;
      ended = s.after.items;
      read_are = are;
      ends = ends.ends;
      told_are = told_all (map file_trouble r.left_out.items) read last s.after.items s is ends.before_is refl;
    }

-- ---- with status 0

none_left_out : (s : Shelved) (replacements : List ℕ) (c : Rows) (a : Request) (files : List Listed) (left : List FileFault) {e : End} → IsEnd s replacements c a files left e → end_status e < 1 → left ≡ []
none_left_out s replacements c a files left (run.left some) lt = absurd (omega (arith, lt))
none_left_out s replacements c a files left (run.read none ends) lt = none

told_alone : (faults : List FileFault) (read ended notes : List Trouble) → faults ≡ [] → ended ≡ notes → map file_trouble faults ++ (read ++ ended) ≡ read ++ notes
told_alone faults read ended notes none same = ap (λ (fs : List FileFault). map file_trouble fs ++ (read ++ ended)) none ∙ ap (λ (es : List Trouble). read ++ es) same

page_there : (p : Option (List ℕ)) → is_some p ≡ true → p ≡ Some (bytes_in p)
page_there None e = absurd (let bad : false ≡ true = e in cc)
page_there (Some bytes) e = refl

zero_written : (b : Bool) (n : ℕ) → b ≡ (n == 0) → n < 1 → b ≡ true
zero_written b n is lt = grind (arith, is, lt)

some_unwritten : (b : Bool) (n : ℕ) → b ≡ (n == 0) → 0 < n → b ≡ false
some_unwritten b n is lt = grind (arith, is, lt)

pub page_written : (s : Shelved) (inside : InsideBytes) (replacements : List ℕ) (a : Request) (r : Run) (text : List ℕ) (read ended : List Trouble) (totals : Option (String Global)) → IsRun s inside replacements a r
    → AreBothTold a.wanted.source r.files.items read → IsNoticeEnd r.end totals text ended → status_of r < 1 → AreAllNoticed s inside replacements a r → IsWrittenExactly r
    → IsPage s inside replacements a text (map file_trouble r.left_out.items ++ (read ++ ended))
page_written s inside replacements a r text read ended totals is reads ends lt all written =
    let none = none_left_out s replacements is.catalogue a r.files.items r.left_out.items is.runs.ends lt in
    let notes = subst (λ (e : End). IsEndTold e ended) all.ends ends.told_are in
    let there = page_there (page_of r.end) (zero_written (is_some (page_of r.end)) (status_of r) written lt) in
    record {
      run = r;
      read = read;
      noticed = all;
      page_is = there ∙ ap (λ (bytes : List ℕ). Some bytes) (sym ends.text_is);
      read_are = reads;
      told_are = told_alone r.left_out.items read ended (map missing_trouble all.notice.missing.items) none notes;
    }

-- ---- with any other

no_page : (p : Option (List ℕ)) → is_some p ≡ false → bytes_in p ≡ []
no_page None e = refl
no_page (Some bytes) e = absurd (let bad : true ≡ false = e in cc)

pub none_written : (r : Run) (totals : Option (String Global)) (text : List ℕ) (told : List Trouble) → IsNoticeEnd r.end totals text told → IsWrittenExactly r → 0 < status_of r → text ≡ []
none_written r totals text told is written lt =
    is.text_is ∙ no_page (page_of r.end) (some_unwritten (is_some (page_of r.end)) (status_of r) written lt)
