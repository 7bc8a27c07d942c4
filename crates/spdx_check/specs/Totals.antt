-- The totals of a check, and the status that they give.
use Rattle.std.specs.Prelude.{ℕ, ◌+◌, ◌==◌, if◌then◌else◌}
use Rattle.line_engine.specs.Output.{capped}
use Rattle.spdx_check.specs.declared.totals.Totals.{Totals}

-- one more file, with its expressions and how many of them are refused
abbrev pub with_file : Totals → ℕ → ℕ → Totals
with_file t expressions refused = record {
  expressions = capped (t.expressions + expressions);
  files = capped (t.files + 1);
  refused = capped (t.refused + refused);
  is_short = t.is_short;
}

-- 2 where a path could not be read, and else 1 exactly where something was refused
abbrev pub status_of : Totals → ℕ
status_of t = if t.is_short then 2 else if t.refused == 0 then 0 else 1
