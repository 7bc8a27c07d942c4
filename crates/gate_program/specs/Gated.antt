-- The packages of some files, and what a policy says of them.
use Rattle.std.specs.Prelude.{◌≡◌, ℕ, Bool, List, Option, None, Some, option_map, slice_get, string_bytes}
use Rattle.std.specs.Global.{Vec}
use Rattle.std.specs.Option.{option_and_then}
use Rattle.spdx_requirement.specs.Rows.{Rows}
use Rattle.spdx_policy.specs.Rules.{Rules}
use Rattle.spdx_gate.specs.declared.report.Report.{Report}
use Rattle.gate_program.specs.declared.before.Before.{Before}
use Rattle.gate_program.specs.declared.gated.Gated.{Gated}
use Rattle.package_files.specs.declared.listed.Listed.{Listed}
use Rattle.gate_program.specs.Before.{IsBefore}
use Rattle.gate_program.specs.Files.{IsReportOf}

-- what is known exactly where older files are given
abbrev pub IsBeforeOf : Rows → Rules → Option (Vec Listed) → List Listed → Report →
    Option Before → Type 0
IsBeforeOf c p None files report before = before ≡ None
IsBeforeOf c p (Some older) files report None = ⊥
IsBeforeOf c p (Some older) files report (Some before) =
    IsBefore c p older.items files report before

-- the report of the policy is that of all packages of the files, and refusals are known by those of
-- the older ones
pub record IsGated (c : Rows) (p : Rules) (files : List Listed) (older : Option (Vec Listed))
    (gated : Gated) : Type 0 where
  pub files_are : gated.files.items ≡ files
  pub judged : IsReportOf c p files gated.report
  pub before : IsBeforeOf c p older files gated.report gated.before

abbrev pub known_in : Gated → Option (List Bool)
known_in gated = option_map (λ (b : Before). b.known.items) gated.before

-- the path of the older file
abbrev pub path_of_first : List Listed → Option (List ℕ)
path_of_first files = option_map (λ (f : Listed). string_bytes f.path) (slice_get files 0)

abbrev pub older_in : Gated → Option (List ℕ)
older_in gated = option_and_then (λ (b : Before). path_of_first b.older.items) gated.before
