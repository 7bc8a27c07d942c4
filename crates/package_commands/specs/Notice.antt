-- What `notice` writes and tells, and with which status it ends.
use Rattle.std.specs.Prelude.{◌≡◌, ℕ, List, [], ◌++◌, Option, None, Some, String, codes, map, unwrap_or}
use Rattle.std.specs.declared.alloc.Global.{Global}
use Rattle.list_program.specs.Named.{InsideBytes}
use Rattle.notice_program.specs.Law.{AreAllNoticed, page_of}
use Rattle.notice_program.specs.Run.{IsRun, status_of}
use Rattle.notice_program.specs.declared.end.End.{End}
use Rattle.notice_program.specs.declared.end.End.TheVariants as end
use Rattle.notice_program.specs.declared.end.Missing.{Missing}
use Rattle.notice_program.specs.declared.end.Request.{Request}
use Rattle.notice_program.specs.declared.run.Run.{Run}
use Rattle.shelves.specs.Shelf.{Shelved}
use Rattle.package_commands.specs.Gate.{AreBothTold}
use Rattle.package_commands.specs.Texts.{AreTextsTold, IsFolderTold, IsNotUtf8}
use Rattle.package_commands.specs.Unchosen.{AreUnchosenTold, IsOnly}
use Rattle.package_commands.specs.declared.pages.NoticeEnd.{NoticeEnd}
use Rattle.spdx_commands.specs.Said.{text_of}
use Rattle.spdx_commands.specs.declared.said.Said.{Said}
use Rattle.spdx_troubles.specs.Causes.{file_trouble}
use Rattle.spdx_troubles.specs.declared.trouble.Trouble.{Trouble}
use Rattle.spdx_troubles.specs.declared.trouble.Trouble.TheVariants as trouble

-- ---- how the run ends

abbrev pub bytes_in : Option (List ℕ) → List ℕ
bytes_in page = unwrap_or page []

-- a text that is missing
abbrev pub missing_trouble : Missing → Trouble
missing_trouble m = trouble.NoText m.«package» m.text

-- what is missing on the page, or why there is none; of a file that is left out it is told before
abbrev pub IsEndTold : End → List Trouble → Type 0
IsEndTold end.LeftOut told = told ≡ []
IsEndTold (end.NoChoice t) told = AreUnchosenTold t told
IsEndTold (end.NoFolder t) told = IsOnly (IsFolderTold t.path t.why) told
IsEndTold (end.NoOwn ts) told = AreTextsTold (codes "a link out of the folder") ts.items told
IsEndTold (end.NoGeneral ts) told =
    AreTextsTold (codes "a link out of the folder; --follow reads it") ts.items told
IsEndTold (end.NotUtf8 name) told = IsOnly (IsNotUtf8 name) told
IsEndTold (end.Told n) told = told ≡ map missing_trouble n.missing.items

abbrev pub totals_of : End → Option (String Global)
totals_of (end.Told n) = n.totals
totals_of other = None

-- the page is written if there is one
pub record IsNoticeEnd (e : End) (totals : Option (String Global)) (text : List ℕ)
    (told : List Trouble) : Type 0 where
  pub text_is : text ≡ bytes_in (page_of e)
  pub told_are : IsEndTold e told
  pub totals_are : totals ≡ totals_of e

-- ---- the command

-- what is written and told of a run: first why files are left out, then how others were read; and
-- the line of totals
pub record IsNoticeTold (a : Request) (run : Run) (text : List ℕ) (told : List Trouble)
    (totals : Option (String Global)) : Type 0 where
  pub read : List Trouble
  pub ended : List Trouble
  pub read_are : AreBothTold a.wanted.source run.files.items read
  pub ends : IsNoticeEnd run.end totals text ended
  pub told_are : told ≡ map file_trouble run.left_out.items ++ (read ++ ended)

-- what comes of a run is written and told
pub record IsNotice (s : Shelved) (inside : InsideBytes) (replacements : List ℕ) (a : Request)
    (text : List ℕ) (told : List Trouble) (n : NoticeEnd) : Type 0 where
  pub run : Run
  pub is_run : IsRun s inside replacements a run
  pub told_are : IsNoticeTold a run text told n.totals
  pub status_is : n.status ≡ status_of run

-- so it is with such an end
abbrev pub SaysNotice : Shelved → InsideBytes → List ℕ → Request → List ℕ → List Trouble → Type 0
SaysNotice s inside replacements a text told =
    (n : NoticeEnd) × IsNotice s inside replacements a text told n

-- the page that is written has all that is wanted, and nothing is told besides but how files were
-- read and what is missing on it
pub record IsPage (s : Shelved) (inside : InsideBytes) (replacements : List ℕ) (a : Request)
    (text : List ℕ) (told : List Trouble) : Type 0 where
  pub run : Run
  pub read : List Trouble
  pub noticed : AreAllNoticed s inside replacements a run
  pub page_is : page_of run.end ≡ Some text
  pub read_are : AreBothTold a.wanted.source run.files.items read
  pub told_are : told ≡ read ++ map missing_trouble noticed.notice.missing.items

-- ---- the parts of it, which only private clauses cite

-- this is said of the end, behind what is told before
pub record IsEndSaid (before : List Trouble) (e : End) (s : Said) (totals : Option (String Global)) :
    Type 0 where
  pub before_is : s.before.items ≡ before
  pub ends : IsNoticeEnd e totals (text_of s) s.after.items

-- nothing is written
pub record IsNoPage (before after : List Trouble) (s : Said) (totals : Option (String Global)) :
    Type 0 where
  pub before_is : s.before.items ≡ before
  pub after_is : s.after.items ≡ after
  pub text_is : text_of s ≡ []
  pub no_totals : totals ≡ None
