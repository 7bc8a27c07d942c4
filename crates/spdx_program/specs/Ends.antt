-- What comes of each command that is asked for: what is written, told and put in the places of files,
-- and the status; or with which trouble it stops.
use Rattle.std.specs.Prelude.{◌≡◌, ℕ, List, None, Result, Ok, Err}
use Rattle.std.specs.Option.{option_copied}
use Rattle.changes_program.specs.Run as changes
use Rattle.check_files.specs.Told.{Account, Does, Writes, unkept}
use Rattle.check_files.specs.declared.trouble.CheckTrouble.{CheckTrouble}
use Rattle.check_program.specs.Runs as check
use Rattle.check_program.specs.declared.run.CheckEnd.{CheckEnd}
use Rattle.check_program.specs.declared.run.Inside.{Inside}
use Rattle.check_program.specs.declared.run.Request as check_asked
use Rattle.fix_program.specs.declared.run.Request as fix_asked
use Rattle.gate_program.specs.Run as gate
use Rattle.line_engine.specs.Device.{Told}
use Rattle.list_program.specs.Named.{InsideBytes, inside_of}
use Rattle.list_program.specs.Written.{MadePaths, made_of}
use Rattle.list_program.specs.declared.made.MadeOf.{MadeOf}
use Rattle.list_told.specs.Diffs as lists
use Rattle.list_told.specs.Shown as show
use Rattle.list_told.specs.declared.differing.Lists.{Lists}
use Rattle.list_told.specs.declared.shown.NameQuery.{NameQuery}
use Rattle.meaning_program.specs.Compared as compare
use Rattle.meaning_program.specs.Files as simplify
use Rattle.meaning_program.specs.declared.compared.TextPair.{TextPair}
use Rattle.meaning_program.specs.declared.files.Request as simplify_asked
use Rattle.notice_program.specs.Run as notice
use Rattle.notice_program.specs.declared.end.Request as notice_asked
use Rattle.package_commands.specs.Changes.{IsDiff, SaysDiff}
use Rattle.package_commands.specs.Gate.{IsGate, SaysGate}
use Rattle.package_commands.specs.Notice.{IsNotice, SaysNotice}
use Rattle.package_commands.specs.declared.differences.DiffTask.{DiffTask}
use Rattle.package_commands.specs.declared.differences.DiffEnd.{DiffEnd}
use Rattle.package_commands.specs.declared.gated.GateTask.{GateTask}
use Rattle.package_commands.specs.declared.pages.NoticeEnd.{NoticeEnd}
use Rattle.shelves.specs.Shelf.{Shelved}
use Rattle.spdx_commands.specs.Compare.{IsCompare, SaysCompared}
use Rattle.spdx_commands.specs.Lists.{IsShow, IsUnmade, SaysDiffer, SaysShown, WritesMade}
use Rattle.spdx_commands.specs.Mend.{Did, IsFix, IsFixStopped, Stand}
use Rattle.spdx_commands.specs.Simplify.{IsSimplify, SaysMeant}
use Rattle.spdx_commands.specs.Stops.{IsStopped}
use Rattle.spdx_program.specs.declared.ended.Ended.{Ended}
use Rattle.spdx_troubles.specs.Causes.{check_end_trouble, gate_trouble, list_trouble, meaning_trouble, notice_trouble}
use Rattle.spdx_troubles.specs.declared.trouble.Trouble.{Trouble}

-- ---- where it is asked

-- what the shelf holds, and what the program has inside
pub record World : Type 1 where
  pub shelf : Shelved
  pub inside : Inside

abbrev pub world : Shelved → Inside → World
world shelf inside = record { shelf = shelf; inside = inside }

abbrev pub list_in : World → InsideBytes
list_in w = inside_of w.inside.list.list.now w.inside.list.extras.now

abbrev pub replacements_in : World → List ℕ
replacements_in w = w.inside.replacements.now

-- ---- how it ends

-- it ends so, without a line of totals
pub record IsEnd (Is : ℕ → Type 0) (e : Ended) : Type 0 where
  pub is : Is e.status
  pub no_totals : e.totals ≡ None

abbrev pub noticed : Ended → NoticeEnd
noticed e = record { status = e.status; totals = e.totals }

abbrev pub changed : Ended → DiffEnd
changed e = record { status = e.status; totals = e.totals }

-- a status alone is answered, or none
abbrev pub alone : Result ℕ Trouble → Result Ended Trouble
alone (Ok status) = Ok (record { status = status; totals = None })
alone (Err t) = Err t

-- a check answers a status, or stops by the trouble of its cause
abbrev pub stopped : Result ℕ CheckEnd → Result ℕ Trouble
stopped (Ok status) = Ok status
stopped (Err cause) = Err (check_end_trouble cause)

-- what answers no status has the status 0
abbrev pub passed : Result (Unit {0}) Trouble → Result ℕ Trouble
passed (Ok unit) = Ok 0
passed (Err t) = Err t

abbrev pub changed_end : Result DiffEnd Trouble → Result Ended Trouble
changed_end (Ok c) = Ok (record { status = c.status; totals = c.totals })
changed_end (Err t) = Err t

abbrev pub noticed_end : Result NoticeEnd Trouble → Result Ended Trouble
noticed_end (Ok n) = Ok (record { status = n.status; totals = n.totals })
noticed_end (Err t) = Err t

-- it ends so, or stops by such a trouble
abbrev pub Ends : (Ended → Type 0) → (Trouble → Type 0) → Result Ended Trouble → Type 0
Ends Is Stops (Ok e) = Is e
Ends Is Stops (Err t) = Stops t

-- ---- what comes of what is asked

pub data IsCheckStopped (w : World) (a : check_asked.Request) (out out' : Told)
    (noted noted' : Account CheckTrouble) : Trouble → Type 0 where
  caused : (cause : CheckEnd) →
      check.IsNoRun w.shelf (check.inside_of w.inside) a out out' noted noted' cause →
      IsCheckStopped w a out out' noted noted' (check_end_trouble cause)

abbrev pub IsCheckEnd : World → check_asked.Request → Told → Told → Account CheckTrouble →
    Account CheckTrouble → Result Ended Trouble → Type 0
IsCheckEnd w a out out' noted noted' answer =
    Ends (IsEnd (λ status. Does out out' noted noted' (λ text told.
    check.IsRun w.shelf (check.inside_of w.inside) a text told status)))
    (IsCheckStopped w a out out' noted noted') answer

abbrev pub IsFixEnd : World → fix_asked.Request → Stand → Stand → Result Ended Trouble → Type 0
IsFixEnd w a x y answer =
    Ends (IsEnd (λ status. Did x y (IsFix w.shelf (list_in w) a status)))
    (IsFixStopped w.shelf (list_in w) a x y) answer

abbrev pub IsCompareStopped : World → TextPair → Told → Told → Trouble → Type 0
IsCompareStopped w a out out' t =
    IsStopped meaning_trouble (compare.IsNotCompared w.shelf (list_in w) a)
    (SaysCompared w.shelf (list_in w) a) out out' unkept unkept t

abbrev pub IsCompareEnd : World → TextPair → Told → Told → Result Ended Trouble → Type 0
IsCompareEnd w a out out' answer =
    Ends (IsEnd (λ status. Writes out out' (λ text.
    IsCompare w.shelf (list_in w) a text status)))
    (IsCompareStopped w a out out') answer

abbrev pub IsSimplifyStopped : World → simplify_asked.Request → Told → Told → Account Trouble →
    Account Trouble → Trouble → Type 0
IsSimplifyStopped w a out out' heard heard' t =
    IsStopped meaning_trouble (simplify.IsNoRun w.shelf (list_in w) a)
    (SaysMeant w.shelf (list_in w) a) out out' heard heard' t

abbrev pub IsSimplifyEnd : World → simplify_asked.Request → Told → Told → Account Trouble →
    Account Trouble → Result Ended Trouble → Type 0
IsSimplifyEnd w a out out' heard heard' answer =
    Ends (IsEnd (λ status. Does out out' heard heard' (λ text told.
    IsSimplify w.shelf (list_in w) a text told status)))
    (IsSimplifyStopped w a out out' heard heard') answer

abbrev pub IsShowStopped : World → NameQuery → Told → Told → Account Trouble →
    Account Trouble → Trouble → Type 0
IsShowStopped w a out out' heard heard' t =
    IsStopped list_trouble (show.IsNotShown w.shelf (list_in w) (replacements_in w) a)
    (SaysShown w.shelf (list_in w) (replacements_in w) a) out out' heard heard' t

abbrev pub IsShowEnd : World → NameQuery → Told → Told → Account Trouble →
    Account Trouble → Result Ended Trouble → Type 0
IsShowEnd w a out out' heard heard' answer =
    Ends (IsEnd (λ status. Does out out' heard heard' (λ text told.
    IsShow w.shelf (list_in w) (replacements_in w) a text told status)))
    (IsShowStopped w a out out' heard heard') answer

abbrev pub paths_in : MadeOf → MadePaths
paths_in a = made_of a.licenses.now a.exceptions.now (option_copied a.extras)

abbrev pub IsMakeEnd : Shelved → MadeOf → Told → Told → Result Ended Trouble → Type 0
IsMakeEnd s a out out' answer =
    Ends (IsEnd (λ status. (status ≡ 0) × WritesMade s (paths_in a) out out'))
    (IsUnmade s (paths_in a) out out') answer

abbrev pub IsListsStopped : World → Lists → Told → Told → Trouble → Type 0
IsListsStopped w a out out' t =
    IsStopped list_trouble (lists.IsNoDiff w.shelf (list_in w) (replacements_in w) a)
    (SaysDiffer w.shelf (list_in w) (replacements_in w) a) out out' unkept unkept t

abbrev pub IsListsEnd : World → Lists → Told → Told → Result Ended Trouble → Type 0
IsListsEnd w a out out' answer =
    Ends (IsEnd (λ status. (status ≡ 0) × Writes out out'
    (lists.IsDiff w.shelf (list_in w) (replacements_in w) a)))
    (IsListsStopped w a out out') answer

abbrev pub IsGateStopped : World → GateTask → Told → Told → Account Trouble →
    Account Trouble → Trouble → Type 0
IsGateStopped w a out out' heard heard' t =
    IsStopped gate_trouble (gate.IsNoRun w.shelf (list_in w) (replacements_in w) a.run)
    (SaysGate w.shelf (list_in w) (replacements_in w) a) out out' heard heard' t

abbrev pub IsGateEnd : World → GateTask → Told → Told → Account Trouble →
    Account Trouble → Result Ended Trouble → Type 0
IsGateEnd w a out out' heard heard' answer =
    Ends (IsEnd (λ status. Does out out' heard heard' (λ text told.
    IsGate w.shelf (list_in w) (replacements_in w) a text told status)))
    (IsGateStopped w a out out' heard heard') answer

abbrev pub IsChangesStopped : World → DiffTask → Told → Told → Account Trouble →
    Account Trouble → Trouble → Type 0
IsChangesStopped w a out out' heard heard' t =
    IsStopped gate_trouble (changes.IsNoRun w.shelf (list_in w) (replacements_in w) a.run)
    (SaysDiff w.shelf (list_in w) (replacements_in w) a) out out' heard heard' t

abbrev pub IsChangesEnd : World → DiffTask → Told → Told → Account Trouble →
    Account Trouble → Result Ended Trouble → Type 0
IsChangesEnd w a out out' heard heard' answer =
    Ends (λ e. Does out out' heard heard' (λ text told.
    IsDiff w.shelf (list_in w) (replacements_in w) a text told (changed e)))
    (IsChangesStopped w a out out' heard heard') answer

abbrev pub IsNoticeStopped : World → notice_asked.Request → Told → Told → Account Trouble →
    Account Trouble → Trouble → Type 0
IsNoticeStopped w a out out' heard heard' t =
    IsStopped notice_trouble (notice.IsNoRun w.shelf (list_in w) a)
    (SaysNotice w.shelf (list_in w) (replacements_in w) a) out out' heard heard' t

abbrev pub IsNoticeEnd : World → notice_asked.Request → Told → Told → Account Trouble →
    Account Trouble → Result Ended Trouble → Type 0
IsNoticeEnd w a out out' heard heard' answer =
    Ends (λ e. Does out out' heard heard' (λ text told.
    IsNotice w.shelf (list_in w) (replacements_in w) a text told (noticed e)))
    (IsNoticeStopped w a out out' heard heard') answer
