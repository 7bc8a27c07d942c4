-- What is found in a file, written and counted.
use Rattle.std.specs.Prelude.{◌≡◌, ℕ, List, [], nat_lt, if◌then◌else◌}
use Rattle.line_engine.specs.declared.lines.Summary.{Summary}
use Rattle.spdx_check.specs.declared.totals.Totals.{Totals}
use Rattle.spdx_check.specs.Totals.{with_file}
use Rattle.check_sources.specs.declared.sums.Sums.{Sums}

-- a file without an expression counts for none
abbrev pub counted : Totals → Summary → Totals
counted t s = if nat_lt 0 s.lines then with_file t s.lines s.refused else t

-- and nothing is written of it
abbrev pub written : Summary → List ℕ → List ℕ
written s found = if nat_lt 0 s.lines then found else []

-- the file's expressions are counted, and nothing else is; what was found in it is written
pub record IsCounted (old new : Sums) (s : Summary) (found text : List ℕ) : Type 0 where
  pub totals : new.totals ≡ counted old.totals s
  pub text_is : text ≡ written s found
  pub left_out : new.left_out ≡ old.left_out
  pub tables : new.tables ≡ old.tables
  pub texts : new.texts ≡ old.texts
  pub bare : new.bare ≡ old.bare
  pub untagged : new.untagged ≡ old.untagged
