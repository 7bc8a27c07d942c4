-- Which statuses the commands end with.
use Rattle.std.proofs.Common.{◌≡◌, ◌<◌, ℕ, Bool, true, false, List, [], ◌∷◌, Option, None, Some, Result, Ok, Err, arith}
use Rattle.std.specs.Prelude.{IfOk, max, if◌then◌else◌}
use Rattle.line_engine.specs.Device.{Told}
use Rattle.shelves.specs.Shelf.{Shelved}
use Rattle.list_program.specs.Named.{InsideBytes}
use Rattle.check_files.specs.Told.{Account, Does, Writes}
use Rattle.check_files.specs.declared.trouble.CheckTrouble.{CheckTrouble}
use Rattle.changes_program.specs.Run as changes
use Rattle.changes_program.specs.declared.run.ToldChanges.{ToldChanges}
use Rattle.check_program.specs.Runs as check
use Rattle.check_program.specs.declared.run.Request as check_asked
use Rattle.gate_program.specs.Run as gate
use Rattle.gate_program.specs.declared.run.End.{End}
use Rattle.gate_program.specs.declared.run.End.TheVariants as end
use Rattle.package_files.specs.declared.fault.FileFault.{FileFault}
use Rattle.fix_program.specs.declared.run.Request as fix_asked
use Rattle.list_told.specs.Shown as show
use Rattle.list_told.specs.declared.shown.NameQuery.{NameQuery}
use Rattle.list_told.specs.declared.unlisted.Unlisted.{Unlisted}
use Rattle.choice_program.specs.declared.choosing.ChoiceTrouble.{ChoiceTrouble}
use Rattle.choice_program.specs.declared.choosing.ChoiceTrouble.TheVariants as trouble
use Rattle.notice_program.specs.Ends as notice
use Rattle.notice_program.specs.declared.end.End as notice_end
use Rattle.notice_program.specs.declared.end.End.TheVariants as ends
use Rattle.notice_program.specs.declared.end.Request as notice_asked
use Rattle.meaning_program.specs.declared.compared.TextPair.{TextPair}
use Rattle.meaning_program.specs.declared.files.Request as simplify_asked
use Rattle.package_commands.specs.Changes.{IsDiff}
use Rattle.package_commands.specs.declared.differences.DiffTask.{DiffTask}
use Rattle.package_commands.specs.declared.differences.DiffEnd.{DiffEnd}
use Rattle.package_commands.specs.Gate.{IsGate}
use Rattle.package_commands.specs.Notice.{IsNotice}
use Rattle.package_commands.specs.declared.gated.GateTask.{GateTask}
use Rattle.package_commands.specs.declared.pages.NoticeEnd.{NoticeEnd}
use Rattle.spdx_commands.specs.Compare.{IsCompare}
use Rattle.spdx_commands.specs.Lists.{IsShow}
use Rattle.spdx_commands.specs.Mend.{Did, IsFix, Stand, worst}
use Rattle.spdx_commands.specs.Simplify.{IsSimplify}
use Rattle.spdx_troubles.specs.Status.{status_of}
use Rattle.spdx_troubles.specs.declared.trouble.Trouble.{Trouble}
use Rattle.spdx_troubles.specs.declared.trouble.Trouble.TheVariants as told
use Rattle.spdx_words.specs.declared.packages.request.GateRequest.{GateRequest}
use Rattle.spdx_words.specs.declared.request.CheckRequest.{CheckRequest}
use Rattle.spdx_words.specs.declared.request.FixRequest.{FixRequest}
use Rattle.spdx_words.specs.declared.request.Request.{Request}
use Rattle.spdx_words.specs.declared.request.Request.TheVariants as request
use Rattle.spdx_program.specs.Asked.{changes_of, compare_of}
use Rattle.spdx_program.specs.Ends.{IsCheckEnd, IsGateEnd, World, changed, list_in, noticed, replacements_in}
use Rattle.spdx_program.specs.Requests.{DoesCheck, DoesFix, DoesGate, IfWritten, IsFixed, Performs, Quietly, Side, idle, nowhere, stand_of}
use Rattle.spdx_program.specs.declared.ended.Ended.{Ended}

two_one : (a b : Bool) → (if a then 2 else (if b then 1 else 0)) < 4
two_one true b = omega arith
two_one false true = omega arith
two_one false false = omega arith

two_none : (a b : Bool) → (if a then 2 else (if b then 0 else 1)) < 4
two_none true b = omega arith
two_none false true = omega arith
two_none false false = omega arith

none_one : (a : Bool) → (if a then 0 else 1) < 4
none_one true = omega arith
none_one false = omega arith

as_is : (status is : ℕ) → status ≡ is → is < 4 → status < 4
as_is status is e low = omega (arith, e, low)

check_ends : (s : Shelved) (inside : check.Inside) (a : check_asked.Request) (out out' : Told) (h h' : Account CheckTrouble) (status : ℕ)
    → Does out out' h h' (λ text told. check.IsRun s inside a text told status) → status < 4
check_ends s inside a out out' h h' status d = let (by, of, run) = d.is in as_is status _ run.status_is (two_none _ _)

compare_ends : (s : Shelved) (inside : InsideBytes) (a : TextPair) (out out' : Told) (status : ℕ) → Writes out out' (λ text. IsCompare s inside a text status) → status < 4
compare_ends s inside a out out' status w = let (text, appends, is) = w in as_is status _ is.status_is (none_one _)

simplify_ends : (s : Shelved) (inside : InsideBytes) (a : simplify_asked.Request) (out out' : Told) (h h' : Account Trouble) (status : ℕ)
    → Does out out' h h' (λ text told. IsSimplify s inside a text told status) → status < 4
simplify_ends s inside a out out' h h' status d = as_is status _ d.is.status_is (two_one _ _)

unlisted_low : (unlisted : List Unlisted) → show.status_by unlisted < 4
unlisted_low [] = omega arith
unlisted_low (u ∷ us) = omega arith

show_ends : (s : Shelved) (inside : InsideBytes) (replacements : List ℕ) (a : NameQuery) (out out' : Told) (h h' : Account Trouble) (status : ℕ)
    → Does out out' h h' (λ text told. IsShow s inside replacements a text told status) → status < 4
show_ends s inside replacements a out out' h h' status d = as_is status _ d.is.status_is (unlisted_low _)

gate_low : (left_out : List FileFault) (e : End) → gate.status_by left_out e < 4
gate_low [] end.NoFile = omega arith
gate_low [] (end.NoBaseline f) = omega arith
gate_low [] (end.Told text) = none_one text.is_passed
gate_low [] (end.NoPackage text) = omega arith
gate_low (f ∷ fs) e = omega arith

gate_ends : (s : Shelved) (inside : InsideBytes) (replacements : List ℕ) (a : GateTask) (out out' : Told) (h h' : Account Trouble) (status : ℕ)
    → Does out out' h h' (λ text told. IsGate s inside replacements a text told status) → status < 4
gate_ends s inside replacements a out out' h h' status d = as_is status _ d.is.status_is (gate_low _ _)

status_low : (t : Trouble) → status_of t < 4
status_low (told.Unreadable n e) = omega arith
status_low (told.NotUtf8 n) = omega arith
status_low (told.Unnamed n count) = omega arith
status_low (told.Folder n) = omega arith
status_low (told.Broken n) = omega arith
status_low (told.List n fault) = omega arith
status_low (told.Made n fault) = omega arith
status_low told.Nameless = omega arith
status_low (told.NoExtras fault) = omega arith
status_low (told.Source n fault) = omega arith
status_low (told.Manifest n why line) = omega arith
status_low (told.NoManifest n) = omega arith
status_low (told.Empty n) = omega arith
status_low (told.Policy n fault) = omega arith
status_low (told.Accepted n why) = omega arith
status_low (told.NoPackage n) = omega arith
status_low (told.NoChoice n why) = omega arith
status_low (told.Unmeant n why) = omega arith
status_low (told.Text n why) = omega arith
status_low (told.NoText n text) = omega arith
status_low (told.Unlisted n told) = omega arith
status_low (told.Unwritable n e) = omega arith
status_low (told.Changed n) = omega arith
status_low (told.Linked n) = omega arith
status_low (told.Owner n e) = omega arith
status_low (told.Lost n) = omega arith
status_low (told.Guessed n form) = omega arith
status_low (told.LeftBehind n) = omega arith
status_low (told.Shared names) = omega arith
status_low (told.Special n) = omega arith
status_low (told.Above n) = omega arith
status_low told.Output = omega arith
status_low told.Memory = omega arith

max_low : (a b : ℕ) → a < 4 → b < 4 → max a b < 4
max_low a b x y = omega (arith, x, y)

worst_low : (ts : List Trouble) → worst ts < 4
worst_low [] = omega arith
worst_low (t ∷ ts) = max_low (status_of t) (worst ts) (status_low t) (worst_low ts)

fix_ends : (s : Shelved) (inside : InsideBytes) (a : fix_asked.Request) (x y : Stand) (status : ℕ) → Did x y (IsFix s inside a status) → status < 4
fix_ends s inside a x y status did = as_is status _ did.is.status_is (max_low _ _ (two_one _ _) (worst_low _))

one_none : (a : Bool) → (if a then 1 else 0) < 4
one_none true = omega arith
one_none false = omega arith

changes_low : (told : Option ToldChanges) → changes.status_by told < 4
changes_low None = omega arith
changes_low (Some told) = one_none told.is_refused

diff_ends : (s : Shelved) (inside : InsideBytes) (replacements : List ℕ) (a : DiffTask) (out out' : Told) (h h' : Account Trouble) (changed : DiffEnd)
    → Does out out' h h' (λ text told. IsDiff s inside replacements a text told changed) → changed.status < 4
diff_ends s inside replacements a out out' h h' changed d = as_is changed.status _ d.is.status_is (changes_low _)

choice_low : (t : ChoiceTrouble) → notice.choice_status t < 4
choice_low (trouble.NoChoices us) = omega arith
choice_low (trouble.NoneTogether w) = omega arith
choice_low (trouble.NoLicensee n r) = omega arith
choice_low (trouble.Policy t) = omega arith
choice_low trouble.Memory = omega arith

page_low : {A : Type 0} → (page : Option A) → notice.page_status page < 4
page_low None = omega arith
page_low (Some page) = omega arith

notice_low : (e : notice_end.End) → notice.end_status e < 4
notice_low ends.LeftOut = omega arith
notice_low (ends.NoChoice t) = choice_low t
notice_low (ends.NoFolder t) = omega arith
notice_low (ends.NoOwn ts) = omega arith
notice_low (ends.NoGeneral ts) = omega arith
notice_low (ends.NotUtf8 n) = omega arith
notice_low (ends.Told n) = page_low n.page

notice_ends : (s : Shelved) (inside : InsideBytes) (replacements : List ℕ) (a : notice_asked.Request) (out out' : Told) (h h' : Account Trouble) (noticed : NoticeEnd)
    → Does out out' h h' (λ text told. IsNotice s inside replacements a text told noticed) → noticed.status < 4
notice_ends s inside replacements a out out' h h' noticed d = as_is noticed.status _ d.is.status_is (notice_low _)

none_low : (status : ℕ) → status ≡ 0 → status < 4
none_low status is = as_is status 0 is (omega arith)

-- whether it is quiet or not, it ends so of some outputs
quietly : (q : Bool) (out out' : Told) (Is : Told → Told → Type 0) → Quietly q out out' Is → (o : Told) × (o' : Told) × Is o o'
quietly false out out' Is end = (out, out', end)
quietly true out out' Is end = (nowhere, nowhere, end.0)

check_low : (w : World) (r : CheckRequest) (colours : Bool) (out out' : Told) (h h' : Account CheckTrouble) (e : Ended) → DoesCheck w colours r out out' h h' (Ok e) → e.status < 4
check_low w r colours out out' h h' e does =
    let (o, o', end) = quietly r.quiet out out' (λ o o'. IsCheckEnd w does.0 o o' h h' (Ok e)) does.2 in
    check_ends w.shelf (check.inside_of w.inside) does.0 o o' h h' e.status end.is

gate_low_end : (w : World) (r : GateRequest) (colours : Bool) (out out' : Told) (h h' : Account Trouble) (e : Ended) → DoesGate w colours r out out' h h' (Ok e) → e.status < 4
gate_low_end w r colours out out' h h' e does =
    let (o, o', end) = quietly r.quiet out out' (λ o o'. IsGateEnd w does.0 o o' h h' (Ok e)) does.2 in
    gate_ends w.shelf (list_in w) (replacements_in w) does.0 o o' h h' e.status end.is

-- whether files are written or not, it ends so of some stands
if_written : (write : Bool) (x y : Stand) (Is : Stand → Stand → Type 0) → IfWritten write x y Is → (x' : Stand) × (y' : Stand) × Is x' y'
if_written true x y Is end = (x, y, end)
if_written false x y Is end = (idle x, idle y, end.0)

fix_low : (w : World) (r : FixRequest) (x y : Stand) (e : Ended) → DoesFix w r x y (Ok e) → e.status < 4
fix_low w r x y e does =
    let (x', y', end) = if_written r.write x y (λ x y. IsFixed w r x y (Ok e)) does in
    fix_ends w.shelf (list_in w) end.0 x' y' e.status end.2.is

pub low : (w : World) (colours : Bool) (r : Request) (x y : Side) (answer : Result Ended Trouble) → Performs w colours r x y answer → IfOk answer (λ e. e.status < 4)
low w colours (request.Check r) x y (Ok e) does = check_low w r colours x.output y.output x.noted y.noted e does
low w colours (request.Fix r) x y (Ok e) does = fix_low w r (stand_of x) (stand_of y) e does
low w colours (request.Gate r) x y (Ok e) does = gate_low_end w r colours x.output y.output x.heard y.heard e does
low w colours (request.Notice r) x y (Ok e) does = notice_ends w.shelf (list_in w) (replacements_in w) does.0 x.output y.output x.heard y.heard (noticed e) does.2
low w colours (request.Compare r) x y (Ok e) does = compare_ends w.shelf (list_in w) (compare_of r) x.output y.output e.status does.0.is
low w colours (request.Simplify r) x y (Ok e) does = simplify_ends w.shelf (list_in w) does.0 x.output y.output x.heard y.heard e.status does.2.is
low w colours (request.Show r) x y (Ok e) does = show_ends w.shelf (list_in w) (replacements_in w) does.0 x.output y.output x.heard y.heard e.status does.2.is
low w colours (request.Make r) x y (Ok e) does = none_low e.status does.0.is.0
low w colours (request.Diff r) x y (Ok e) does = none_low e.status does.0.is.0
low w colours (request.Changes r) x y (Ok e) does = diff_ends w.shelf (list_in w) (replacements_in w) (changes_of r) x.output y.output x.heard y.heard (changed e) does
low w colours r x y (Err t) does = tt
