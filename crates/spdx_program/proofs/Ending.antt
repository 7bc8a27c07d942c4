-- Each command's end is that of the call that it makes.
use Rattle.std.proofs.Common.{◌≡◌, refl, sym, subst, ℕ, Bool, true, false, Result, Ok, Err}
use Rattle.std.specs.Prelude.{IfErr, IfOk}
use Rattle.check_files.specs.Told.{Account, Does, Writes}
use Rattle.check_files.specs.declared.trouble.CheckTrouble.{CheckTrouble}
use Rattle.check_program.specs.Runs as check
use Rattle.check_program.specs.declared.run.CheckEnd.{CheckEnd}
use Rattle.check_program.specs.declared.run.Request as check_asked
use Rattle.fix_program.specs.declared.run.Request as fix_asked
use Rattle.line_engine.specs.Device.{Told}
use Rattle.list_told.specs.Diffs as lists
use Rattle.list_told.specs.declared.shown.NameQuery.{NameQuery}
use Rattle.meaning_program.specs.declared.files.Request as simplify_asked
use Rattle.notice_program.specs.declared.end.Request as notice_asked
use Rattle.package_commands.specs.Changes.{IsDiff}
use Rattle.package_commands.specs.Gate.{IsGate}
use Rattle.package_commands.specs.Notice.{IsNotice}
use Rattle.package_commands.specs.declared.differences.DiffTask.{DiffTask}
use Rattle.package_commands.specs.declared.differences.DiffEnd.{DiffEnd}
use Rattle.package_commands.specs.declared.gated.GateTask.{GateTask}
use Rattle.package_commands.specs.declared.pages.NoticeEnd.{NoticeEnd}
use Rattle.shelves.specs.Shelf.{Shelved}
use Rattle.spdx_commands.specs.Compare.{IsCompare}
use Rattle.spdx_commands.specs.Lists.{IsShow, IsUnmade, WritesMade}
use Rattle.spdx_commands.specs.Mend.{Did, IsFix, IsFixStopped, Stand}
use Rattle.spdx_commands.specs.Simplify.{IsSimplify}
use Rattle.spdx_troubles.specs.declared.trouble.Trouble.{Trouble}
use Rattle.spdx_words.specs.declared.packages.request.ChangesRequest.{ChangesRequest}
use Rattle.spdx_words.specs.declared.packages.request.GateRequest.{GateRequest}
use Rattle.spdx_words.specs.declared.packages.request.NoticeRequest.{NoticeRequest}
use Rattle.spdx_words.specs.declared.request.CheckRequest.{CheckRequest}
use Rattle.spdx_words.specs.declared.request.CompareRequest.{CompareRequest}
use Rattle.spdx_words.specs.declared.request.DiffRequest.{DiffRequest}
use Rattle.spdx_words.specs.declared.request.FixRequest.{FixRequest}
use Rattle.spdx_words.specs.declared.request.MakeRequest.{MakeRequest}
use Rattle.spdx_words.specs.declared.request.ShowRequest.{ShowRequest}
use Rattle.spdx_words.specs.declared.request.SimplifyRequest.{SimplifyRequest}
use Rattle.spdx_program.specs.Asked.{IsAskedOf, IsShowAsked, changes_of, check_of, compare_of, fix_of, gate_of, lists_of, make_of, notice_of, simplify_of}
use Rattle.spdx_program.specs.Ends.{Ends, IsChangesEnd, IsChangesStopped, IsCheckEnd, IsCheckStopped, IsCompareStopped, IsEnd, IsGateEnd, IsGateStopped, IsListsStopped, IsNoticeEnd, IsNoticeStopped, IsShowStopped, IsSimplifyStopped, World, alone, caused, changed_end, list_in, noticed_end, passed, paths_in, replacements_in, stopped}
use Rattle.spdx_program.specs.Requests.{DoesChanges, DoesCheck, DoesCompare, DoesFix, DoesGate, DoesLists, DoesMake, DoesNotice, DoesShow, DoesSimplify, IfWritten, IsFixed, Quietly, idle, nowhere}
use Rattle.spdx_program.specs.declared.ended.Ended.{Ended}

-- ---- any command

pub alone_end : (Is : ℕ → Type 0) (Stops : Trouble → Type 0) (got : Result ℕ Trouble) (answer : Result Ended Trouble)
    → answer ≡ alone got → IfOk got Is → IfErr got Stops → Ends (IsEnd Is) Stops answer
alone_end Is Stops (Ok status) answer is ok err = subst (Ends (IsEnd Is) Stops) (sym is) (record { is = ok; no_totals = refl })
alone_end Is Stops (Err t) answer is ok err = subst (Ends (IsEnd Is) Stops) (sym is) err

pub passed_end : (Is : Type 0) (Stops : Trouble → Type 0) (got : Result (Unit {0}) Trouble) (status : Result ℕ Trouble) (answer : Result Ended Trouble)
    → status ≡ passed got → answer ≡ alone status → IfOk got (λ _. Is) → IfErr got Stops → Ends (IsEnd (λ n. (n ≡ 0) × Is)) Stops answer
passed_end Is Stops (Ok unit) status answer was is ok err =
    subst (Ends (IsEnd (λ n. (n ≡ 0) × Is)) Stops) (sym is) (subst (λ r. Ends (IsEnd (λ n. (n ≡ 0) × Is)) Stops (alone r)) (sym was) (record { is = (refl, ok); no_totals = refl }))
passed_end Is Stops (Err t) status answer was is ok err =
    subst (Ends (IsEnd (λ n. (n ≡ 0) × Is)) Stops) (sym is) (subst (λ r. Ends (IsEnd (λ n. (n ≡ 0) × Is)) Stops (alone r)) (sym was) err)

-- ---- each command

stopped_end : (w : World) (a : check_asked.Request) (out out' : Told) (h h' : Account CheckTrouble) (got : Result ℕ CheckEnd)
    → IfOk got (λ status. Does out out' h h' (λ text told. check.IsRun w.shelf (check.inside_of w.inside) a text told status))
    → IfErr got (check.IsNoRun w.shelf (check.inside_of w.inside) a out out' h h')
    → Ends (IsEnd (λ status. Does out out' h h' (λ text told. check.IsRun w.shelf (check.inside_of w.inside) a text told status))) (IsCheckStopped w a out out' h h') (alone (stopped got))
stopped_end w a out out' h h' (Ok status) ok err = record { is = ok; no_totals = refl }
stopped_end w a out out' h h' (Err cause) ok err = caused cause err

pub check_done : (w : World) (a : check_asked.Request) (out out' : Told) (h h' : Account CheckTrouble) (got : Result ℕ CheckEnd)
    (status : Result ℕ Trouble) (answer : Result Ended Trouble) → status ≡ stopped got → answer ≡ alone status
    → IfOk got (λ status. Does out out' h h' (λ text told. check.IsRun w.shelf (check.inside_of w.inside) a text told status))
    → IfErr got (check.IsNoRun w.shelf (check.inside_of w.inside) a out out' h h')
    → IsCheckEnd w a out out' h h' answer
check_done w a out out' h h' got status answer was is ok err =
    subst (IsCheckEnd w a out out' h h') (sym is) (subst (λ (x : Result ℕ Trouble). IsCheckEnd w a out out' h h' (alone x)) (sym was) (stopped_end w a out out' h h' got ok err))

pub check_quiet : (w : World) (colours : Bool) (r : CheckRequest) (a : check_asked.Request) (out : Told) (h h' : Account CheckTrouble) (answer : Result Ended Trouble)
    → IsAskedOf r.paths.items (check_of r colours) a → r.quiet ≡ true → IsCheckEnd w a nowhere nowhere h h' answer → DoesCheck w colours r out out h h' answer
check_quiet w colours r a out h h' answer asked is end =
    (a, asked, subst (λ q. Quietly q out out (λ o o'. IsCheckEnd w a o o' h h' answer)) (sym is) (end, refl))

pub check_told : (w : World) (colours : Bool) (r : CheckRequest) (a : check_asked.Request) (out out' : Told) (h h' : Account CheckTrouble) (answer : Result Ended Trouble)
    → IsAskedOf r.paths.items (check_of r colours) a → r.quiet ≡ false → IsCheckEnd w a out out' h h' answer → DoesCheck w colours r out out' h h' answer
check_told w colours r a out out' h h' answer asked is end =
    (a, asked, subst (λ q. Quietly q out out' (λ o o'. IsCheckEnd w a o o' h h' answer)) (sym is) end)

pub fix_done : (w : World) (r : FixRequest) (a : fix_asked.Request) (x y : Stand) (got : Result ℕ Trouble) (answer : Result Ended Trouble)
    → IsAskedOf r.paths.items (fix_of r) a → answer ≡ alone got
    → IfOk got (λ status. Did x y (IsFix w.shelf (list_in w) a status)) → IfErr got (IsFixStopped w.shelf (list_in w) a x y) → IsFixed w r x y answer
fix_done w r a x y got answer asked is ok err =
    (a, asked, alone_end (λ status. Did x y (IsFix w.shelf (list_in w) a status)) (IsFixStopped w.shelf (list_in w) a x y) got answer is ok err)

pub fix_written : (w : World) (r : FixRequest) (x y : Stand) (answer : Result Ended Trouble) → r.write ≡ true → IsFixed w r x y answer → DoesFix w r x y answer
fix_written w r x y answer on is = subst (λ write. IfWritten write x y (λ x y. IsFixed w r x y answer)) (sym on) is

pub fix_idle : (w : World) (r : FixRequest) (x y : Stand) (answer : Result Ended Trouble) → r.write ≡ false → y.tried ≡ x.tried
    → IsFixed w r (idle x) (idle y) answer → DoesFix w r x y answer
fix_idle w r x y answer off kept is = subst (λ write. IfWritten write x y (λ x y. IsFixed w r x y answer)) (sym off) (is, kept)

pub compare_done : (w : World) (r : CompareRequest) (out out' : Told) (got : Result ℕ Trouble) (answer : Result Ended Trouble) → answer ≡ alone got
    → IfOk got (λ status. Writes out out' (λ text. IsCompare w.shelf (list_in w) (compare_of r) text status))
    → IfErr got (IsCompareStopped w (compare_of r) out out') → DoesCompare w r out out' answer
compare_done w r out out' got answer is ok err =
    alone_end (λ status. Writes out out' (λ text. IsCompare w.shelf (list_in w) (compare_of r) text status))
    (IsCompareStopped w (compare_of r) out out') got answer is ok err

pub simplify_done : (w : World) (r : SimplifyRequest) (a : simplify_asked.Request) (out out' : Told) (h h' : Account Trouble) (got : Result ℕ Trouble) (answer : Result Ended Trouble)
    → IsAskedOf r.paths.items (simplify_of r) a → answer ≡ alone got
    → IfOk got (λ status. Does out out' h h' (λ text told. IsSimplify w.shelf (list_in w) a text told status))
    → IfErr got (IsSimplifyStopped w a out out' h h') → DoesSimplify w r out out' h h' answer
simplify_done w r a out out' h h' got answer asked is ok err = (
  a,
  asked,
  alone_end (λ status. Does out out' h h' (λ text told. IsSimplify w.shelf (list_in w) a text told status))
      (IsSimplifyStopped w a out out' h h') got answer is ok err,
)

pub show_done : (w : World) (r : ShowRequest) (a : NameQuery) (out out' : Told) (h h' : Account Trouble) (got : Result ℕ Trouble) (answer : Result Ended Trouble)
    → IsShowAsked r a → answer ≡ alone got
    → IfOk got (λ status. Does out out' h h' (λ text told. IsShow w.shelf (list_in w) (replacements_in w) a text told status))
    → IfErr got (IsShowStopped w a out out' h h') → DoesShow w r out out' h h' answer
show_done w r a out out' h h' got answer asked is ok err = (
  a,
  asked,
  alone_end (λ status. Does out out' h h' (λ text told. IsShow w.shelf (list_in w) (replacements_in w) a text told status))
      (IsShowStopped w a out out' h h') got answer is ok err,
)

pub make_done : (s : Shelved) (r : MakeRequest) (out out' : Told) (got : Result (Unit {0}) Trouble) (status : Result ℕ Trouble) (answer : Result Ended Trouble)
    → status ≡ passed got → answer ≡ alone status
    → IfOk got (λ _. WritesMade s (paths_in (make_of r)) out out') → IfErr got (IsUnmade s (paths_in (make_of r)) out out') → DoesMake s r out out' answer
make_done s r out out' got status answer was is ok err =
    passed_end (WritesMade s (paths_in (make_of r)) out out') (IsUnmade s (paths_in (make_of r)) out out') got status answer was is ok err

pub lists_done : (w : World) (r : DiffRequest) (out out' : Told) (got : Result (Unit {0}) Trouble) (status : Result ℕ Trouble) (answer : Result Ended Trouble)
    → status ≡ passed got → answer ≡ alone status
    → IfOk got (λ _. Writes out out' (lists.IsDiff w.shelf (list_in w) (replacements_in w) (lists_of r)))
    → IfErr got (IsListsStopped w (lists_of r) out out') → DoesLists w r out out' answer
lists_done w r out out' got status answer was is ok err =
    passed_end (Writes out out' (lists.IsDiff w.shelf (list_in w) (replacements_in w) (lists_of r)))
    (IsListsStopped w (lists_of r) out out') got status answer was is ok err

pub gate_done : (w : World) (a : GateTask) (out out' : Told) (h h' : Account Trouble) (got : Result ℕ Trouble) (answer : Result Ended Trouble) → answer ≡ alone got
    → IfOk got (λ status. Does out out' h h' (λ text told. IsGate w.shelf (list_in w) (replacements_in w) a text told status))
    → IfErr got (IsGateStopped w a out out' h h') → IsGateEnd w a out out' h h' answer
gate_done w a out out' h h' got answer is ok err =
    alone_end (λ status. Does out out' h h' (λ text told. IsGate w.shelf (list_in w) (replacements_in w) a text told status))
    (IsGateStopped w a out out' h h') got answer is ok err

pub gate_quiet : (w : World) (colours : Bool) (r : GateRequest) (a : GateTask) (out : Told) (h h' : Account Trouble) (answer : Result Ended Trouble)
    → IsAskedOf r.paths.items (gate_of r colours w.inside.version) a → r.quiet ≡ true → IsGateEnd w a nowhere nowhere h h' answer → DoesGate w colours r out out h h' answer
gate_quiet w colours r a out h h' answer asked is end =
    (a, asked, subst (λ q. Quietly q out out (λ o o'. IsGateEnd w a o o' h h' answer)) (sym is) (end, refl))

pub gate_told : (w : World) (colours : Bool) (r : GateRequest) (a : GateTask) (out out' : Told) (h h' : Account Trouble) (answer : Result Ended Trouble)
    → IsAskedOf r.paths.items (gate_of r colours w.inside.version) a → r.quiet ≡ false → IsGateEnd w a out out' h h' answer → DoesGate w colours r out out' h h' answer
gate_told w colours r a out out' h h' answer asked is end =
    (a, asked, subst (λ q. Quietly q out out' (λ o o'. IsGateEnd w a o o' h h' answer)) (sym is) end)

pub changes_done : (w : World) (r : ChangesRequest) (a : DiffTask) (out out' : Told) (h h' : Account Trouble) (got : Result DiffEnd Trouble) (answer : Result Ended Trouble)
    → a ≡ changes_of r → answer ≡ changed_end got
    → IfOk got (λ c. Does out out' h h' (λ text told. IsDiff w.shelf (list_in w) (replacements_in w) a text told c))
    → IfErr got (IsChangesStopped w a out out' h h') → DoesChanges w r out out' h h' answer
changes_done w r a out out' h h' (Ok c) answer asked is ok err =
    subst (λ (b : DiffTask). IsChangesEnd w b out out' h h' answer) asked (subst (IsChangesEnd w a out out' h h') (sym is) ok)
changes_done w r a out out' h h' (Err t) answer asked is ok err =
    subst (λ (b : DiffTask). IsChangesEnd w b out out' h h' answer) asked (subst (IsChangesEnd w a out out' h h') (sym is) err)

pub notice_done : (w : World) (r : NoticeRequest) (a : notice_asked.Request) (out out' : Told) (h h' : Account Trouble) (got : Result NoticeEnd Trouble) (answer : Result Ended Trouble)
    → IsAskedOf r.paths.items (notice_of r) a → answer ≡ noticed_end got
    → IfOk got (λ n. Does out out' h h' (λ text told. IsNotice w.shelf (list_in w) (replacements_in w) a text told n))
    → IfErr got (IsNoticeStopped w a out out' h h') → DoesNotice w r out out' h h' answer
notice_done w r a out out' h h' (Ok n) answer asked is ok err = (a, asked, subst (IsNoticeEnd w a out out' h h') (sym is) ok)
notice_done w r a out out' h h' (Err t) answer asked is ok err = (a, asked, subst (IsNoticeEnd w a out out' h h') (sym is) err)
