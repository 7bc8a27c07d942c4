-- What a run of the program writes, tells and puts in the places of files, and with which status it
-- ends.
use Rattle.std.specs.Prelude.{ℕ, Bool, Result}
use Rattle.check_files.specs.Told.{Account}
use Rattle.line_engine.specs.Device.{Told}
use Rattle.spdx_commands.specs.Replaced.{Attempt}
use Rattle.spdx_program.specs.Ends.{World}
use Rattle.spdx_program.specs.Requests.{IsPerformed, Side, side}
use Rattle.spdx_program.specs.Telling.{IsEndTold, heard_in, noted_in}
use Rattle.spdx_program.specs.declared.ended.Ended.{Ended}
use Rattle.spdx_program.specs.declared.outputs.Screen.{Screen}
use Rattle.spdx_troubles.specs.declared.trouble.Trouble.{Trouble}
use Rattle.spdx_words.specs.declared.request.Request.{Request}

-- what standard output and standard error have, and what was tried to put in the places of files
pub record Outcome : Type 0 where
  pub output : Told
  pub faults : Told
  pub tried : Account Attempt

abbrev pub outcome : Told → Told → Account Attempt → Outcome
outcome output faults tried = record { output = output; faults = faults; tried = tried }

-- the troubles that are told, be it of a file that is checked or of anything else, are the lines of
-- standard error
abbrev pub side_of : Bool → Outcome → Side
side_of is_shown x =
    side x.output (noted_in is_shown x.faults) (heard_in is_shown x.faults) x.tried

-- what is asked is done; behind the lines of what was told stands the last one
pub record IsServed (w : World) (screen : Screen) (r : Request) (x y : Outcome) (status : ℕ) :
    Type 0 where
  pub answer : Result Ended Trouble
  -- standard error before its last line
  pub faults : Told
  pub is_shown : Bool
  pub performs : IsPerformed w screen.colours r (side_of screen.progress x)
      (side_of is_shown (outcome y.output faults y.tried)) answer
  pub ends : IsEndTold is_shown answer faults y.faults status
