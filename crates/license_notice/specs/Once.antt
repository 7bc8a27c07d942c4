-- Packages in the order of a page.
use Rattle.std.specs.Prelude.{◌↔◌, List, Contains}
use Rattle.std.specs.declared.cmp.Ordering.{Ordering}
use Rattle.std.specs.List.Sorted.{IsStrictlySortedBy}
use Rattle.std.specs.Ordering.{ordering_then}
use Rattle.license_notice.specs.Rows.{Line, text_cmp}

-- by name, then by version
abbrev pub line_cmp : Line → Line → Ordering
line_cmp x y = ordering_then (text_cmp x.name y.name) (text_cmp x.version y.version)

-- just those that are given, ascending, each once
pub record AreOnce (given found : List Line) : Type 0 where
  pub ascend : IsStrictlySortedBy line_cmp found
  pub same : (l : Line) → Contains found l ↔ Contains given l
