-- What comes of a request.
use Rattle.std.specs.Prelude.{◌≡◌, Bool, true, false, [], None, Result}
use Rattle.check_files.specs.Told.{Account, each}
use Rattle.check_files.specs.declared.trouble.CheckTrouble.{CheckTrouble}
use Rattle.check_program.specs.declared.run.Request as check_asked
use Rattle.fix_program.specs.declared.run.Request as fix_asked
use Rattle.line_engine.specs.Device.{Told, told}
use Rattle.list_told.specs.declared.shown.NameQuery.{NameQuery}
use Rattle.meaning_program.specs.declared.files.Request as simplify_asked
use Rattle.notice_program.specs.declared.end.Request as notice_asked
use Rattle.package_commands.specs.declared.gated.GateTask.{GateTask}
use Rattle.shelves.specs.Shelf.{Shelved}
use Rattle.spdx_commands.specs.Mend.{Stand, stand}
use Rattle.spdx_commands.specs.Replaced.{Attempt}
use Rattle.spdx_program.specs.Asked.{IsAskedOf, IsShowAsked, changes_of, check_of, compare_of, fix_of, gate_of, lists_of, make_of, notice_of, simplify_of}
use Rattle.spdx_program.specs.Ends.{IsChangesEnd, IsCheckEnd, IsCompareEnd, IsFixEnd, IsGateEnd, IsListsEnd, IsMakeEnd, IsNoticeEnd, IsShowEnd, IsSimplifyEnd, World}
use Rattle.spdx_program.specs.declared.ended.Ended.{Ended}
use Rattle.spdx_troubles.specs.declared.trouble.Trouble.{Trouble}
use Rattle.spdx_words.specs.declared.packages.request.ChangesRequest.{ChangesRequest}
use Rattle.spdx_words.specs.declared.packages.request.GateRequest.{GateRequest}
use Rattle.spdx_words.specs.declared.packages.request.NoticeRequest.{NoticeRequest}
use Rattle.spdx_words.specs.declared.request.CheckRequest.{CheckRequest}
use Rattle.spdx_words.specs.declared.request.CompareRequest.{CompareRequest}
use Rattle.spdx_words.specs.declared.request.DiffRequest.{DiffRequest}
use Rattle.spdx_words.specs.declared.request.FixRequest.{FixRequest}
use Rattle.spdx_words.specs.declared.request.MakeRequest.{MakeRequest}
use Rattle.spdx_words.specs.declared.request.Request.{Request}
use Rattle.spdx_words.specs.declared.request.Request.TheVariants as request
use Rattle.spdx_words.specs.declared.request.ShowRequest.{ShowRequest}
use Rattle.spdx_words.specs.declared.request.SimplifyRequest.{SimplifyRequest}

-- what an output tells, which troubles were told of files that are checked, and of all else, and what
-- was tried to put in the places of files
pub record Side : Type 0 where
  pub output : Told
  pub noted : Account CheckTrouble
  pub heard : Account Trouble
  pub tried : Account Attempt

abbrev pub side : Told → Account CheckTrouble → Account Trouble →
    Account Attempt → Side
side output noted heard tried =
    record {
      output = output;
      noted = noted;
      heard = heard;
      tried = tried;
    }

abbrev pub stand_of : Side → Stand
stand_of x = stand x.output x.heard x.tried

-- ---- each command, as it is asked

-- an output of which nothing is known but that it doesn't fail
abbrev pub nowhere : Told
nowhere = told None false

-- with `--quiet` the text goes nowhere, and the output stays as it is
abbrev pub Quietly : Bool → Told → Told → (Told → Told → Type 0) → Type 0
Quietly false out out' Is = Is out out'
Quietly true out out' Is = Is nowhere nowhere × (out' ≡ out)

abbrev pub DoesCheck : World → Bool → CheckRequest → Told → Told → Account CheckTrouble →
    Account CheckTrouble → Result Ended Trouble → Type 0
DoesCheck w colours r out out' noted noted' answer =
    (a : check_asked.Request) × IsAskedOf r.paths.items (check_of r colours) a
    × Quietly r.quiet out out' (λ o o'. IsCheckEnd w a o o' noted noted' answer)

abbrev pub IsFixed : World → FixRequest → Stand → Stand → Result Ended Trouble → Type 0
IsFixed w r x y answer =
    (a : fix_asked.Request) × IsAskedOf r.paths.items (fix_of r) a × IsFixEnd w a x y answer

-- the same, where nothing was tried to be put in the places of files
abbrev pub idle : Stand → Stand
idle x = stand x.output x.heard (each [])

-- where files aren't to be written, it is done without the one who could, who stays as he was
abbrev pub IfWritten : Bool → Stand → Stand → (Stand → Stand → Type 0) → Type 0
IfWritten true x y Is = Is x y
IfWritten false x y Is = Is (idle x) (idle y) × (y.tried ≡ x.tried)

abbrev pub DoesFix : World → FixRequest → Stand → Stand → Result Ended Trouble → Type 0
DoesFix w r x y answer = IfWritten r.write x y (λ x y. IsFixed w r x y answer)

abbrev pub DoesCompare : World → CompareRequest → Told → Told → Result Ended Trouble → Type 0
DoesCompare w r out out' answer = IsCompareEnd w (compare_of r) out out' answer

abbrev pub DoesSimplify : World → SimplifyRequest → Told → Told → Account Trouble →
    Account Trouble → Result Ended Trouble → Type 0
DoesSimplify w r out out' heard heard' answer =
    (a : simplify_asked.Request) × IsAskedOf r.paths.items (simplify_of r) a
    × IsSimplifyEnd w a out out' heard heard' answer

abbrev pub DoesShow : World → ShowRequest → Told → Told → Account Trouble →
    Account Trouble → Result Ended Trouble → Type 0
DoesShow w r out out' heard heard' answer =
    (a : NameQuery) × IsShowAsked r a × IsShowEnd w a out out' heard heard' answer

abbrev pub DoesMake : Shelved → MakeRequest → Told → Told → Result Ended Trouble → Type 0
DoesMake s r out out' answer = IsMakeEnd s (make_of r) out out' answer

abbrev pub DoesLists : World → DiffRequest → Told → Told → Result Ended Trouble → Type 0
DoesLists w r out out' answer = IsListsEnd w (lists_of r) out out' answer

abbrev pub DoesGate : World → Bool → GateRequest → Told → Told → Account Trouble →
    Account Trouble → Result Ended Trouble → Type 0
DoesGate w colours r out out' heard heard' answer =
    (a : GateTask) × IsAskedOf r.paths.items (gate_of r colours w.inside.version) a
    × Quietly r.quiet out out' (λ o o'. IsGateEnd w a o o' heard heard' answer)

abbrev pub DoesChanges : World → ChangesRequest → Told → Told → Account Trouble →
    Account Trouble → Result Ended Trouble → Type 0
DoesChanges w r out out' heard heard' answer =
    IsChangesEnd w (changes_of r) out out' heard heard' answer

abbrev pub DoesNotice : World → NoticeRequest → Told → Told → Account Trouble →
    Account Trouble → Result Ended Trouble → Type 0
DoesNotice w r out out' heard heard' answer =
    (a : notice_asked.Request) × IsAskedOf r.paths.items (notice_of r) a
    × IsNoticeEnd w a out out' heard heard' answer

-- ---- any of them, told in colours or plainly

-- nobody is told a trouble
pub record IsSilent (x y : Side) : Type 0 where
  pub noted : y.noted ≡ x.noted
  pub heard : y.heard ≡ x.heard

abbrev pub Performs : World → Bool → Request → Side → Side → Result Ended Trouble → Type 0
Performs w colours (request.Check r) x y answer =
    DoesCheck w colours r x.output y.output x.noted y.noted answer
Performs w colours (request.Fix r) x y answer = DoesFix w r (stand_of x) (stand_of y) answer
Performs w colours (request.Gate r) x y answer =
    DoesGate w colours r x.output y.output x.heard y.heard answer
Performs w colours (request.Notice r) x y answer =
    DoesNotice w r x.output y.output x.heard y.heard answer
Performs w colours (request.Compare r) x y answer =
    DoesCompare w r x.output y.output answer × IsSilent x y
Performs w colours (request.Simplify r) x y answer =
    DoesSimplify w r x.output y.output x.heard y.heard answer
Performs w colours (request.Show r) x y answer =
    DoesShow w r x.output y.output x.heard y.heard answer
Performs w colours (request.Make r) x y answer =
    DoesMake w.shelf r x.output y.output answer × IsSilent x y
Performs w colours (request.Diff r) x y answer =
    DoesLists w r x.output y.output answer × IsSilent x y
Performs w colours (request.Changes r) x y answer =
    DoesChanges w r x.output y.output x.heard y.heard answer

-- what is asked is done: the answer, and what stands before and behind it, are as the request has it
pub record IsPerformed (w : World) (colours : Bool) (r : Request) (x y : Side)
    (answer : Result Ended Trouble) : Type 0 where
  pub performs : Performs w colours r x y answer

-- files are to be written
abbrev pub writes_files : Request → Bool
writes_files (request.Fix r) = r.write
writes_files _ = false
