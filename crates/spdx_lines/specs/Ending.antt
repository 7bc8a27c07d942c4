-- How a program ends.
use Rattle.std.specs.Prelude.{◌≡◌, ℕ, ◌==◌, if◌then◌else◌, Option, Result, Ok, Err, List, [], false, codes}
use Rattle.std.specs.Borrow.{Bor}
use Rattle.std.specs.Io.KnownBytes.{Keeps, Appends}
use Rattle.line_engine.specs.declared.lines.Summary.{Summary}
use Rattle.line_engine.specs.declared.lines.RunFault.{RunFault}
use Rattle.line_engine.specs.declared.lines.RunFault.TheVariants.{Read, Write, Memory}
use Rattle.line_engine.specs.Rule.{Rule}
use Rattle.line_engine.specs.Device.{Told, Devices}
use Rattle.line_engine.specs.Progress.{HasBegun}
use Rattle.line_engine.specs.Runs.{Runs}
use Rattle.spdx_lexer.specs.Faults.{fault_of}
use Rattle.spdx_lexer.specs.Code.{span_of}
use Rattle.spdx_lines.specs.declared.program.Stop.{Stop}
use Rattle.spdx_lines.specs.declared.program.Stop.TheVariants as stop
use Rattle.spdx_lines.specs.Program.{Refusal, Usage, Unreadable, NoCatalogue, NoLicensee, refusal_line, Meaning, IsTheMeaning, plan_of}

abbrev pub HasMovedNothing : Devices → Type 0
HasMovedNothing d = Keeps d.input.bytes d.input'.bytes × Keeps d.output.bytes d.output'.bytes

abbrev pub fault_line : RunFault → List ℕ
fault_line Read = codes "read fault\n"
fault_line Write = codes "write fault\n"
fault_line Memory = codes "out of memory\n"

-- the status and the line that is told, by what came of the plan
pub data Ends (plan : Result Rule Refusal) (d : Devices) : ℕ → List ℕ → Type 0 where
  -- the run came to its end
  done : {rule : Rule} {summary : Summary} → plan ≡ Ok rule → Runs rule d (Ok summary) →
      Ends plan d (if summary.refused == 0 then 0 else 1) []
  -- it broke off
  broken : {rule : Rule} {fault : RunFault} → plan ≡ Ok rule → Runs rule d (Err fault) →
      Ends plan d 3 (fault_line fault)
  -- there was none
  refused : {refusal : Refusal} → plan ≡ Err refusal → HasMovedNothing d →
      Ends plan d 2 (refusal_line refusal)
  -- memory was wanted before the run, in it, or for the line that tells of it
  short : {rule : Rule} → plan ≡ Ok rule → HasBegun rule d → Ends plan d 3 (fault_line Memory)
  -- memory was wanted where there was none
  short_of_all : {refusal : Refusal} → plan ≡ Err refusal → HasMovedNothing d →
      Ends plan d 3 (fault_line Memory)

-- ---- what the program's own type says, what it borrows aside

abbrev pub stop_status : Stop → ℕ
stop_status (stop.Run fault) = 3
stop_status s = 2

abbrev pub stop_line : Stop → List ℕ
stop_line stop.Usage = refusal_line Usage
stop_line stop.Unreadable = refusal_line Unreadable
stop_line (stop.Catalogue fault) = refusal_line (NoCatalogue fault)
stop_line (stop.Licensee n error) =
    refusal_line (NoLicensee n (fault_of error.reason) (span_of error.span))
stop_line (stop.Run fault) = fault_line fault

-- the run ended so, or stopped so
abbrev pub EndsBy : Result Rule Refusal → Devices → Result Summary Stop → Type 0
EndsBy plan d (Ok summary) = Ends plan d (if summary.refused == 0 then 0 else 1) []
EndsBy plan d (Err s) = Ends plan d (stop_status s) (stop_line s)

-- the licensees are refused so, or memory was wanted
abbrev pub StopsAt : {A : Type 0} → Result A Refusal → Stop → Type 0
StopsAt plan (stop.Run Memory) = Unit {0}
StopsAt plan (stop.Run fault) = ⊥
StopsAt plan stop.Usage = plan ≡ Err Usage
StopsAt plan stop.Unreadable = plan ≡ Err Unreadable
StopsAt plan (stop.Catalogue fault) = plan ≡ Err (NoCatalogue fault)
StopsAt plan (stop.Licensee n error) =
    plan ≡ Err (NoLicensee n (fault_of error.reason) (span_of error.span))

-- ---- the whole program

-- It ends as the words and the catalogue's bytes have it, by what they and the lines mean; the
-- status says how, and so does the line that is told, unless the device for it has failed.
pub record Serves (words : Option (Bor (List (Bor (List ℕ))))) (catalogue : Option (Bor (List ℕ)))
    (d : Devices) (old new : Told) (status : ℕ) : Type 0 where
  pub by : Meaning
  pub is_meant : IsTheMeaning by
  pub line : List ℕ
  pub ends : Ends (plan_of by words catalogue) d status line
  pub tells : new.has_failed ≡ false → Appends old.bytes new.bytes line
