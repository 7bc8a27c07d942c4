-- How a run of lines ends.
use Rattle.std.proofs.Common.{◌≡◌, ℕ, Bool, List, Result}
use Rattle.std.specs.Prelude.{IfErr, IfOk, count_by}
use Rattle.line_engine.specs.Device.{Devices}
use Rattle.line_engine.specs.Output.{capped}
use Rattle.line_engine.specs.Progress.{HasRunBehind}
use Rattle.line_engine.specs.Runs.{Runs}
use Rattle.spdx_check.specs.declared.check.Check.{Check}
use Rattle.spdx_check.specs.declared.lines.Checked.{Checked}
use Rattle.spdx_check.specs.declared.lines.LinesFault.{LinesFault}
use Rattle.spdx_check.specs.Checking.{ChecksLines, CountsBroken, is_white, replacements_in, summary_in}
use Rattle.spdx_check.specs.Found.{finding_of, rule_of}
use Rattle.spdx_check.proofs.Blanks.{leaves_out_white}
use Rattle.spdx_check.proofs.Findings.{the_finding}

-- by what is counted where it comes to its end, and where it breaks off
pub checks : (check : Check) (is_first : Bool) (file : List ℕ) (d : Devices) (result : Result Checked LinesFault) → Runs (rule_of check is_first file) d (summary_in result)
    → IfOk result (λ (c : Checked). HasRunBehind (rule_of check is_first file) (λ lines. c.blanks ≡ capped (count_by is_white lines)) d c.summary)
    → IfErr result (CountsBroken (rule_of check is_first file) d) → ChecksLines check is_first file d result
checks check is_first file d result runs counts broken =
    let finding = finding_of check.catalogue.now (replacements_in check) check.mode in
    record {
      finding = finding;
      findings = the_finding check.catalogue.now (replacements_in check) check.mode;
      runs = runs;
      blank = leaves_out_white finding check.format is_first file;
      counts = counts;
      broken = broken;
    }
