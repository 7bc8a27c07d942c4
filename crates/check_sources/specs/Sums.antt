-- What a check counts, how it ends, and its last lines.
use Rattle.std.specs.Prelude.{◌≡◌, ℕ, ◌-◌, ◌==◌, ◌&&◌, Bool, false, List, [], ◌∷◌, ◌++◌, take, length, map, flat_map, codes, decimal, nat_lt, string_bytes, if◌then◌else◌}
use Rattle.foreign_text.specs.declared.sinks.Sink.TheVariants.{Line}
use Rattle.foreign_text.specs.Written.{text_for}
use Rattle.finding_forms.specs.Totals.{totals_text}
use Rattle.check_sources.specs.declared.sums.Sums.{Sums}

-- nothing is counted
pub record IsNew (s : Sums) : Type 0 where
  pub expressions : s.totals.expressions ≡ 0
  pub files : s.totals.files ≡ 0
  pub refused : s.totals.refused ≡ 0
  pub is_read : s.totals.is_short ≡ false
  pub left_out : s.left_out.items ≡ []
  pub tables : s.tables.items ≡ []
  pub texts : s.texts ≡ 0
  pub bare : s.bare ≡ 0
  pub untagged : s.untagged ≡ 0

-- no expression was refused, no text is missing or not needed, and no file without a license was
-- told
abbrev pub is_clean : Sums → Bool
is_clean s = (s.totals.refused == 0) && (s.texts == 0) && (s.bare == 0)

-- 2 where a path could not be read, else 1 where something was told, else 0
abbrev pub status_of : Sums → ℕ
status_of s = if s.totals.is_short then 2 else if is_clean s then 0 else 1

-- what a check that passes says: all was read, no expression was refused, no text is missing or not
-- needed, and no file without a license was told
pub record Passes (s : Sums) : Type 0 where
  pub is_read : s.totals.is_short ≡ false
  pub refused : s.totals.refused ≡ 0
  pub texts : s.texts ≡ 0
  pub bare : s.bare ≡ 0

-- the status is 0 exactly if the check passes
pub record PassesExactly (s : Sums) (status : ℕ) : Type 0 where
  pub passes : status ≡ 0 → Passes s
  pub only : Passes s → status ≡ 0

-- ---- the last lines

-- how many license texts are missing or not needed, if any are
unfoldable pub texts_line : ℕ → List ℕ
texts_line count =
    if nat_lt 0 count then codes "license texts missing or not needed: " ++
    (decimal count ++ codes "\n")
    else []

-- how many files are without a license, if any are
unfoldable pub untagged_line : ℕ → List ℕ
untagged_line count =
    if nat_lt 0 count then codes "without a license: " ++
    (decimal count ++ codes " (--untagged tells which)\n")
    else []

-- a path, as a line may have it
abbrev pub shown_path : List ℕ → List ℕ
shown_path path = text_for Line path

abbrev pub other_paths : List (List ℕ) → List ℕ
other_paths paths = flat_map (λ path. codes ", " ++ shown_path path) paths

-- how many there are besides three, if there are more
abbrev pub more_paths : ℕ → List ℕ
more_paths count =
    if nat_lt 3 count then codes " and " ++ (decimal (count - 3) ++ codes " more") else []

-- a line of paths, the first three of them by name, if there are any
abbrev pub paths_line : List ℕ → List (List ℕ) → List ℕ
paths_line said [] = []
paths_line said (path ∷ paths) = said ++ (shown_path path ++ (other_paths (take 2 paths) ++
    (more_paths (length (path ∷ paths)) ++ codes "\n")))

-- the last lines
abbrev pub summary_text : Sums → List ℕ
summary_text s = totals_text s.totals.expressions s.totals.files s.totals.refused ++
    (texts_line s.texts ++ (untagged_line s.untagged ++
    (paths_line (codes "license is a table of before PEP 639, not judged: ")
    (map string_bytes s.tables.items) ++
    paths_line (codes "left out: ") (map string_bytes s.left_out.items))))
