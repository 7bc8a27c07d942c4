-- What a check has counted.
use Rattle.std.specs.Prelude.{ℕ, ◌+◌, ◌-◌, ◌==◌, ◌&&◌, Bool, true, false, List, [], ◌∷◌, ◌++◌, map, string_bytes, if◌then◌else◌}
use Rattle.line_engine.specs.declared.lines.Summary.{Summary}
use Rattle.line_engine.specs.Output.{capped}
use Rattle.spdx_check.specs.declared.totals.Totals.{Totals}
use Rattle.spdx_check.specs.Totals.{with_file}
use Rattle.check_sources.specs.Counted.{counted}
use Rattle.check_sources.specs.declared.sums.Sums.{Sums}

pub record Tally : Type 0 where
  -- the files, the expressions, those that are refused, and whether a path was passed over
  pub totals : Totals
  -- the folders that were left out
  pub left_out : List (List ℕ)
  -- the manifests whose license is a table
  pub tables : List (List ℕ)
  -- the license texts that are missing or that nobody needs
  pub texts : ℕ
  -- the files without a license that were told, and those that weren't
  pub bare : ℕ
  pub untagged : ℕ

abbrev pub tally_of : Sums → Tally
tally_of s = record {
  totals = s.totals;
  left_out = map string_bytes s.left_out.items;
  tables = map string_bytes s.tables.items;
  texts = s.texts;
  bare = s.bare;
  untagged = s.untagged;
}

abbrev pub nothing_counted : Tally
nothing_counted = record {
  totals = record { expressions = 0; files = 0; refused = 0; is_short = false };
  left_out = [];
  tables = [];
  texts = 0;
  bare = 0;
  untagged = 0;
}

-- nothing was found yet
abbrev pub is_clean : Tally → Bool
is_clean t = (t.totals.refused == 0) && (t.texts == 0) && (t.bare == 0)

-- 2 where a path was passed over, else 1 where something was found, else 0
abbrev pub status_of : Tally → ℕ
status_of t = if t.totals.is_short then 2 else if is_clean t then 0 else 1

-- ---- what comes to it

-- the expressions of a file; one without an expression counts for none
abbrev pub with_found : Summary → Tally → Tally
with_found s t = record t { totals = counted t.totals s }

-- a file counts for one, though it was counted both for what it declares and for its tags
abbrev pub once : Bool → Tally → Tally
once true t = record t { totals = record t.totals { files = t.totals.files - 1 } }
once false t = t

-- those of a file of lines
abbrev pub with_lines : Summary → ℕ → Tally → Tally
with_lines s blanks t = record t { totals = with_file t.totals (s.lines - blanks) s.refused }

-- a path is passed over
abbrev pub passed_over : Tally → Tally
passed_over t = record t { totals = record t.totals { is_short = true } }

abbrev pub with_left_out : List ℕ → Tally → Tally
with_left_out path t = record t { left_out = t.left_out ++ path ∷ [] }

abbrev pub with_table : Bool → List ℕ → Tally → Tally
with_table true path t = record t { tables = t.tables ++ path ∷ [] }
with_table false path t = t

abbrev pub with_texts : ℕ → Tally → Tally
with_texts count t = record t { texts = capped (t.texts + count) }

abbrev pub with_bare : ℕ → Tally → Tally
with_bare count t = record t { bare = capped (t.bare + count) }

abbrev pub with_untagged : ℕ → Tally → Tally
with_untagged count t = record t { untagged = capped (t.untagged + count) }
