-- What `fix` writes, tells and puts in the places of files, and with which status it ends.
use Rattle.std.specs.Prelude.{◌≡◌, ℕ, Bool, true, false, List, [], ◌∷◌, ◌++◌, Some, Result, Ok, Err, String, flat_map, map, max, string_bytes, if◌then◌else◌}
use Rattle.std.specs.declared.alloc.Global.{Global}
use Rattle.std.specs.declared.io.Error.{Error}
use Rattle.std.specs.Option.{option_copied}
use Rattle.std.specs.Io.KnownBytes.{Appends}
use Rattle.line_engine.specs.Device.{Told}
use Rattle.shelves.specs.Shelf.{Shelved}
use Rattle.shelves.specs.declared.shelf.Stamp.{Stamp}
use Rattle.spdx_requirement.specs.Rows.{Rows}
use Rattle.list_program.specs.Named.{InsideBytes, IsNamedList}
use Rattle.check_files.specs.Told.{Account, Hears}
use Rattle.file_fixes.specs.Accepted.{Reads}
use Rattle.file_fixes.specs.Mended.{IsMended, bytes_in}
use Rattle.file_fixes.specs.declared.mended.Outcome.{Outcome}
use Rattle.file_fixes.specs.declared.mended.Parts.{Parts}
use Rattle.fix_program.specs.Files.{IsFixedAt, IsNotFixed, IsRead, read_as}
use Rattle.fix_program.specs.Runs as plan
use Rattle.fix_program.specs.Runs.{IsNoRun, IsRun, path_in}
use Rattle.fix_program.specs.declared.ends.FileEnd.{FileEnd}
use Rattle.fix_program.specs.declared.ends.FileEnd.TheVariants as end
use Rattle.fix_program.specs.declared.file.Deed.{Deed}
use Rattle.fix_program.specs.declared.file.Deed.TheVariants as deed
use Rattle.fix_program.specs.declared.file.Fixed.{Fixed}
use Rattle.fix_program.specs.declared.file.FileReplacement.{FileReplacement}
use Rattle.fix_program.specs.declared.run.FixFault.{FixFault}
use Rattle.fix_program.specs.declared.run.PathEnd.{PathEnd}
use Rattle.fix_program.specs.declared.run.Request.{Request}
use Rattle.fix_program.specs.declared.run.Run.{Run}
use Rattle.fix_program.specs.declared.trouble.FixTrouble.{FixTrouble}
use Rattle.spdx_commands.specs.Beside.{IsBesideTold}
use Rattle.spdx_commands.specs.Replaced.{Attempt, attempt, is_replaced, noted}
use Rattle.spdx_commands.specs.Said.{IsBroken}
use Rattle.spdx_commands.specs.declared.mending.replacing.Loss.{Loss}
use Rattle.spdx_commands.specs.declared.mending.replacing.Loss.TheVariants as loss
use Rattle.spdx_commands.specs.declared.mending.replacing.Obstacle.{Obstacle}
use Rattle.spdx_commands.specs.declared.mending.replacing.Obstacle.TheVariants as obstacle
use Rattle.spdx_troubles.specs.Causes.{IsFixTrouble, fix_fault_trouble, is_of_memory}
use Rattle.spdx_troubles.specs.Status.{status_of}
use Rattle.spdx_troubles.specs.declared.trouble.Trouble.{Trouble}
use Rattle.spdx_troubles.specs.declared.trouble.Trouble.TheVariants as trouble

-- ---- what is done

-- a text is written, troubles are told, and bytes are tried to put in the places of files
pub record Done : Type 0 where
  pub text : List ℕ
  pub told : List Trouble
  pub tried : List Attempt

abbrev pub nothing : Done
nothing = record { text = []; told = []; tried = [] }

abbrev pub writing : List ℕ → Done
writing text = record { text = text; told = []; tried = [] }

abbrev pub telling : List Trouble → Done
telling told = record { text = []; told = told; tried = [] }

abbrev pub trying : List Attempt → Done
trying tried = record { text = []; told = []; tried = tried }

-- one thing behind the other
abbrev pub behind : Done → Done → Done
behind x y =
    record { text = x.text ++ y.text; told = x.told ++ y.told; tried = x.tried ++ y.tried }

-- what an output tells, which troubles a listener was told, and what was tried
pub record Stand : Type 0 where
  pub output : Told
  pub heard : Account Trouble
  pub tried : Account Attempt

abbrev pub stand : Told → Account Trouble → Account Attempt → Stand
stand output heard tried = record { output = output; heard = heard; tried = tried }

-- something was done of which this holds
pub record Did (old new : Stand) (Is : Done → Type 0) : Type 0 where
  pub done : Done
  pub writes : Appends old.output.bytes new.output.bytes done.text
  pub tells : Hears old.heard new.heard done.told
  pub tries : Hears old.tried new.tried done.tried
  pub is : Is done

-- the greatest status of these troubles
abbrev pub worst : List Trouble → ℕ
worst [] = 0
worst (t ∷ ts) = max (status_of t) (worst ts)

-- ---- a file

-- over which shelf and by which list files are mended, and whether those that have other names are
-- replaced too
pub record Setting : Type 1 where
  pub shelf : Shelved
  pub rows : Rows
  pub breaks_links : Bool

abbrev pub setting : Shelved → Rows → Bool → Setting
setting shelf rows breaks_links =
    record { shelf = shelf; rows = rows; breaks_links = breaks_links }

-- why it stays as it is
abbrev pub hindrance : String Global → Obstacle → Trouble
hindrance path obstacle.Changed = trouble.Changed path
hindrance path obstacle.Linked = trouble.Linked path
hindrance path (obstacle.Owner e) = trouble.Owner path e
hindrance path (obstacle.Failed e) =
    if is_of_memory e then trouble.Memory else trouble.Unwritable path e

-- what is told of it
abbrev pub told_of : String Global → Result Loss Obstacle → List Trouble
told_of path (Ok loss.Nothing) = []
told_of path (Ok loss.SetId) = trouble.Lost path ∷ []
told_of path (Err o) = hindrance path o ∷ []

-- nothing is done after it
abbrev pub is_end : Result Loss Obstacle → Bool
is_end (Err (obstacle.Failed e)) = true
is_end _ = false

-- the bytes are tried to put in the file's place, with this answer
abbrev pub attempt_of : Bool → FileReplacement → Result Loss Obstacle → Attempt
attempt_of breaks_links r answer =
    attempt (string_bytes r.path) r.stamp breaks_links r.bytes.items answer

-- that is tried, and it is told why they aren't in its place, or what the file lost
pub record IsPlaced (breaks_links : Bool) (r : FileReplacement) (done : Done) : Type 0 where
  pub answer : Result Loss Obstacle
  pub goes_on : is_end answer ≡ false
  pub text_is : done.text ≡ []
  pub told_is : done.told ≡ told_of r.path answer
  pub tried_is : done.tried ≡ attempt_of breaks_links r answer ∷ []

abbrev pub IsPlacedIf : Bool → Deed → Done → Type 0
IsPlacedIf breaks_links (deed.Replace r) done = IsPlaced breaks_links r done
IsPlacedIf breaks_links _ done = done ≡ nothing

-- it is told why the file is left out
pub record IsLeftOut (t : FixTrouble) (done : Done) : Type 0 where
  pub trouble : Trouble
  pub is : IsFixTrouble t trouble
  pub done_is : done ≡ telling (trouble ∷ [])

-- the file is read and mended again, as it is now; its bytes are then placed, or it is left out
pub data IsPlacedAgain (w : Setting) (r : FileReplacement) (done : Done) : Type 0 where
  mended : (f : Fixed) → IsFixedAt w.shelf w.rows true r.parts (string_bytes r.path) f →
      IsPlacedIf w.breaks_links f.deed done → IsPlacedAgain w r done
  left_out : (t : FixTrouble) → IsNotFixed w.shelf w.rows true r.parts (string_bytes r.path) t →
      IsLeftOut t done → IsPlacedAgain w r done

-- again, where the run has replaced it already, under another name maybe
abbrev pub IsPlacedBy : Bool → Setting → FileReplacement → Done → Type 0
IsPlacedBy false w r done = IsPlaced w.breaks_links r done
IsPlacedBy true w r done = IsPlacedAgain w r done

abbrev pub IsDeedDone : Setting → List Attempt → Deed → Done → Type 0
IsDeedDone w before deed.Nothing done = done ≡ nothing
IsDeedDone w before (deed.Put text) done = done ≡ writing text.items
IsDeedDone w before (deed.Replace r) done = IsPlacedBy (is_replaced before r.stamp) w r done

-- ---- a path

-- what comes of a file is done, behind what was tried before; files that were left behind are told
-- later
abbrev pub IsEndDone : Setting → List Attempt → FileEnd → Done → Type 0
IsEndDone w before (end.Fixed f) done = IsDeedDone w before f.deed done
IsEndDone w before (end.LeftOut t) done = IsLeftOut t done
IsEndDone w before (end.LeftBehind n) done = done ≡ nothing

abbrev pub left_behind : FileEnd → List (String Global)
left_behind (end.LeftBehind n) = n ∷ []
left_behind _ = []

-- so it is with each file, one behind the other
pub data AreEndsDone (w : Setting) (before : List Attempt) : List FileEnd → Done → Type 0 where
  no_end : AreEndsDone w before [] nothing
  then_end : (ends : List FileEnd) (e : FileEnd) (done own : Done) →
      AreEndsDone w before ends done → IsEndDone w (before ++ done.tried) e own →
      AreEndsDone w before (ends ++ e ∷ []) (behind done own)

-- with each file of a path, and last it is told which were left behind below it
pub record IsPathDone (w : Setting) (before : List Attempt) (p : PathEnd) (done : Done) :
    Type 0 where
  pub files : Done
  pub are_done : AreEndsDone w before p.ends.items files
  pub done_is : done ≡
      behind files (telling (map trouble.LeftBehind (flat_map left_behind p.ends.items)))

-- so it is with each path
pub data ArePathsDone (w : Setting) : List PathEnd → Done → Type 0 where
  no_path : ArePathsDone w [] nothing
  then_path : (paths : List PathEnd) (p : PathEnd) (done own : Done) →
      ArePathsDone w paths done → IsPathDone w done.tried p own →
      ArePathsDone w (paths ++ p ∷ []) (behind done own)

-- ---- the command

-- what comes of all paths is done; where files are written, it is told last what stands beside them
-- that was left behind
pub record IsFix (s : Shelved) (inside : InsideBytes) (a : Request) (status : ℕ) (done : Done) :
    Type 0 where
  pub run : Run
  pub is_run : IsRun s inside a run
  pub paths : Done
  pub are_done : ArePathsDone (setting s run.catalogue a.breaks_links) run.paths.items paths
  pub beside : List Trouble
  pub is_beside : IsBesideTold a.is_written s (map path_in a.paths.now) beside
  pub done_is : done ≡ behind paths (telling beside)
  pub status_is : status ≡ max (plan.status_of run) (worst done.told)

-- ---- what is done of a file at which it breaks off, of which nothing is told

-- its bytes were tried to put in its place
pub record IsTried (breaks_links : Bool) (r : FileReplacement) (done : Done) : Type 0 where
  pub answer : Result Loss Obstacle
  pub done_is : done ≡ trying (noted (attempt_of breaks_links r answer))

abbrev pub IsTriedIf : Bool → Deed → Done → Type 0
IsTriedIf breaks_links (deed.Replace r) done = IsTried breaks_links r done
IsTriedIf breaks_links _ done = ⊥

-- it was read and mended again, and these bytes were tried; or nothing was
pub data IsTriedAgain (w : Setting) (r : FileReplacement) (done : Done) : Type 0 where
  again : (f : Fixed) → IsFixedAt w.shelf w.rows true r.parts (string_bytes r.path) f →
      IsTriedIf w.breaks_links f.deed done → IsTriedAgain w r done
  untried : done ≡ nothing → IsTriedAgain w r done

abbrev pub IsTriedBy : Bool → Setting → FileReplacement → Done → Type 0
IsTriedBy false w r done = IsTried w.breaks_links r done
IsTriedBy true w r done = IsTriedAgain w r done

-- a beginning of the text was written
pub record IsPut (text : List ℕ) (done : Done) : Type 0 where
  pub begun : List ℕ
  pub others : List ℕ
  pub whole : text ≡ begun ++ others
  pub done_is : done ≡ writing begun

-- at a file of which nothing is to be done it doesn't break off
abbrev pub IsDeedBegun : Setting → List Attempt → Deed → Done → Type 0
IsDeedBegun w before deed.Nothing done = ⊥
IsDeedBegun w before (deed.Put text) done = IsPut text.items done
IsDeedBegun w before (deed.Replace r) done = IsTriedBy (is_replaced before r.stamp) w r done

abbrev pub IsEndBegun : Setting → List Attempt → FileEnd → Done → Type 0
IsEndBegun w before (end.Fixed f) done = IsDeedBegun w before f.deed done
IsEndBegun w before _ done = done ≡ nothing

-- ---- what is done where it breaks off

-- what comes of the first files was done, and of the next one a beginning
pub record AreEndsBegun (w : Setting) (before : List Attempt) (ends : List FileEnd)
    (done : Done) : Type 0 where
  pub first : List FileEnd
  pub next : FileEnd
  pub others : List FileEnd
  pub whole : ends ≡ first ++ next ∷ others
  pub files : Done
  pub own : Done
  pub are_done : AreEndsDone w before first files
  pub is_begun : IsEndBegun w (before ++ files.tried) next own
  pub done_is : done ≡ behind files own

-- of a path: of its files; or of all, and the first were told that were left behind below it
pub data IsPathBegun (w : Setting) (before : List Attempt) (p : PathEnd) : Done → Type 0 where
  in_files : (done : Done) → AreEndsBegun w before p.ends.items done →
      IsPathBegun w before p done
  in_left : (files : Done) (first others : List Trouble) →
      AreEndsDone w before p.ends.items files →
      map trouble.LeftBehind (flat_map left_behind p.ends.items) ≡ first ++ others →
      IsPathBegun w before p (behind files (telling first))

-- the first paths were done, and of the next one a beginning
pub record ArePathsBegun (w : Setting) (paths : List PathEnd) (done : Done) : Type 0 where
  pub first : List PathEnd
  pub next : PathEnd
  pub others : List PathEnd
  pub whole : paths ≡ first ++ next ∷ others
  pub before : Done
  pub own : Done
  pub are_done : ArePathsDone w first before
  pub is_begun : IsPathBegun w before.tried next own
  pub done_is : done ≡ behind before own

-- of a run: of its paths; or of all, and the first were told that stand beside them
pub data IsFixBegun (s : Shelved) (inside : InsideBytes) (a : Request) : Done → Type 0 where
  in_paths : (run : Run) (done : Done) → IsRun s inside a run →
      ArePathsBegun (setting s run.catalogue a.breaks_links) run.paths.items done →
      IsFixBegun s inside a done
  behind_paths : (run : Run) (done : Done) → IsRun s inside a run →
      ArePathsDone (setting s run.catalogue a.breaks_links) run.paths.items done →
      IsFixBegun s inside a done
  in_beside : (run : Run) (paths : Done) (first others : List Trouble) → IsRun s inside a run →
      ArePathsDone (setting s run.catalogue a.breaks_links) run.paths.items paths →
      IsBesideTold a.is_written s (map path_in a.paths.now) (first ++ others) →
      IsFixBegun s inside a (behind paths (telling first))

-- ---- why it stops or breaks off

-- the output has failed, or memory was refused; or a file can't be written, the last that was tried
pub data IsBrokenOff (output : Told) (tried tried' : Account Attempt) : Trouble → Type 0 where
  broken : (t : Trouble) → IsBroken output t → IsBrokenOff output tried tried' t
  unwritten : (before : List Attempt) (path : String Global) (stamp : Stamp) (breaks_links : Bool)
      (bytes : List ℕ) (e : Error) → Hears tried tried' (before ++
      attempt (string_bytes path) stamp breaks_links bytes (Err (obstacle.Failed e)) ∷ []) →
      IsBrokenOff output tried tried' (trouble.Unwritable path e)

-- the list isn't had, and nothing was written, told nor tried; or it breaks off behind a beginning
pub data IsFixStopped (s : Shelved) (inside : InsideBytes) (a : Request) (old new : Stand) :
    Trouble → Type 0 where
  caused : (cause : FixFault) → IsNoRun s inside a cause →
      new.output.bytes ≡ old.output.bytes → Hears old.heard new.heard [] → new.tried ≡ old.tried →
      IsFixStopped s inside a old new (fix_fault_trouble cause)
  broken_off : (t : Trouble) → IsBrokenOff new.output old.tried new.tried t →
      Did old new (IsFixBegun s inside a) → IsFixStopped s inside a old new t

-- ---- laws

-- by the list that is named the file was read and mended, and it is to hold what came of that, where
-- it is still known to hold what was read; some expression in it was refused
pub record IsNeeded (s : Shelved) (inside : InsideBytes) (a : Request) (t : Attempt) :
    Type 0 where
  pub catalogue : Rows
  pub list_is : IsNamedList s inside (option_copied a.list) catalogue
  pub parts : Parts
  pub old : List ℕ
  pub outcome : Outcome
  pub reads : IsRead s true t.path old
  pub stamped : s.HoldsAs t.path old t.stamp
  pub mends : IsMended catalogue parts (read_as true t.path) old outcome
  pub bytes_are : bytes_in outcome.bytes ≡ Some t.bytes
  pub refuses : Reads catalogue parts (read_as true t.path) old → ⊥
  pub links_are : t.breaks_links ≡ a.breaks_links

-- it changes no status
abbrev pub IsMere : Trouble → Type 0
IsMere t = status_of t ≡ 0
