-- What a run in SARIF writes.
use Rattle.std.specs.Prelude.{◌≡◌, ℕ, List, [], ◌∷◌, ◌++◌, Some, map}
use Rattle.json.specs.Json.{document}
use Rattle.finding_forms.specs.declared.forms.Format.TheVariants.{Sarif}
use Rattle.finding_forms.specs.Finding.{Told}
use Rattle.finding_forms.specs.Sarif.{result_of}
use Rattle.finding_forms.specs.SarifLog.{log_of}
use Rattle.shelves.specs.Shelf.{Shelved}
use Rattle.check_files.specs.declared.trouble.CheckTrouble.{CheckTrouble}
use Rattle.check_program.specs.declared.run.Request.{Request}
use Rattle.check_program.specs.Runs.{Inside, IsRun}

-- the text is one log and a newline; read as JSON it is the log of a tool in this version, with a
-- result for each of these findings
pub record IsOneLog (version text : List ℕ) : Type 0 where
  pub findings : List Told
  pub log : List ℕ
  pub text_is : text ≡ log ++ 10 ∷ []
  pub reads : document log ≡ Some (log_of version (map result_of findings))

-- a run that is asked for SARIF writes one log, whatever files there are
abbrev pub WritesOneLog : Shelved → Inside → Request → Type 0
WritesOneLog s inside a = a.format ≡ Sarif →
    (text : List ℕ) (told : List CheckTrouble) (status : ℕ) →
    IsRun s inside a text told status → IsOneLog inside.version text
