-- What was refused before.
use Rattle.std.specs.Prelude.{◌≡◌, Bool, List, map, filter}
use Rattle.spdx_requirement.specs.Rows.{Rows}
use Rattle.spdx_policy.specs.Rules.{Rules}
use Rattle.spdx_gate.specs.declared.report.Report.{Report}
use Rattle.gate_program.specs.Known.{is_known}
use Rattle.gate_program.specs.declared.before.Asked.{Asked}
use Rattle.gate_program.specs.declared.before.Before.{Before}
use Rattle.package_files.specs.declared.listed.Listed.{Listed}
use Rattle.gate_program.specs.Asked.{asked_of, moved_asked, packages_in, refusal_in}
use Rattle.gate_program.specs.Files.{IsReportOf}

-- of each package of the files whether one of its name and license is refused in the older ones
pub record AreKnown (older : List Listed) (older_report : Report) (files : List Listed)
    (report : Report) (known : List Bool) : Type 0 where
  pub before : List Asked
  pub now : List Asked
  pub asked_before : map moved_asked before ≡ asked_of older_report (packages_in older)
  pub asked_now : map moved_asked now ≡ asked_of report (packages_in files)
  pub known_are : known ≡
      map (is_known (map refusal_in (filter (λ (a : Asked). a.is_refused) before)))
      (map refusal_in now)

-- what the policy refuses in the older files decides what is known of these
pub record IsBefore (c : Rows) (p : Rules) (older files : List Listed) (report : Report)
    (before : Before) : Type 0 where
  pub older_report : Report
  pub older_are : before.older.items ≡ older
  pub judged : IsReportOf c p older older_report
  pub known : AreKnown older older_report files report before.known.items
